use Rattle.std.proofs.Common.{◌≡◌, false, true}
use Rattle.ks_catalog.proofs.UrlLemmas.{filled_is_utf8}
use Rattle.ks_catalog.proofs.urls.fill_in.Goals as goal

pub unreachable-requires : goal.unreachable-requires
unreachable-requires c =
    let refused : false ≡ true = c.in-Err.ensures.succeeds (rw (c.in_ok-push_filled.ensures, c.cleared-bytes.ensures, c.as_slice-2.ensures.bytes, c.as_slice.ensures.bytes)
    (filled_is_utf8 c.args.project.now c.args.url.now c.as_slice-2.ensures.id c.as_slice.ensures.utf8)) in
    cc
