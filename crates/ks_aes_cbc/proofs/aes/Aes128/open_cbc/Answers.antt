use Rattle.std.proofs.Common.{◌≡◌, take, sym, arith}
use Rattle.ks_aes_cbc.specs.Cbc.{pad}
use Rattle.ks_aes_cbc.proofs.Chains.{uncbc_is, uncbc_not, AreBytes-take}
use Rattle.ks_aes_cbc.proofs.Streams.{Opened, opened-bytes, unsealed_length, unsealed_padding, sealed_again, sealed_shorter}
use Rattle.ks_aes_cbc.proofs.aes.Aes128.open_cbc.Goals as goal

pub returns-then-sealed-ne0-clause-none : goal.returns-then-sealed-ne0-clause-none
returns-then-sealed-ne0-clause-none c =
    unsealed_length c.args.self.now c.args.iv.now c.args.sealed.now
    c.has_block_key.ensures (record { long = c.told-iv; bytes = c.fits-iv }) c.if-sealed-ne0.true

pub returns-then-sealed-ne0-clause-opened : goal.returns-then-sealed-ne0-clause-opened
returns-then-sealed-ne0-clause-opened c =
    sym (uncbc_not c.args.self.now c.args.iv.now c.args.sealed.now (returns-then-sealed-ne0-clause-none c))

pub unpadded_len-requires : goal.unpadded_len-requires
unpadded_len-requires c =
    let opened : Opened c.args.self.now c.args.iv.now c.args.sealed.now c.in_ok-out.out.items = record {
      key_block = c.has_block_key.ensures;
      iv_block = record { long = c.told-iv; bytes = c.fits-iv };
      bytes = λ k. let fits = c.type_inv.sealed k in omega arith;
      whole = omega arith;
      is = c.in_ok-out.ensures;
    } in
    let same = (opened-bytes c.args.self.now c.args.iv.now c.args.sealed.now c.in_ok-out.out.items opened).0 in
    rw c.as_slice.ensures.value (rw same (omega arith))

pub returns-in_default-clause-none : goal.returns-in_default-clause-none
returns-in_default-clause-none c =
    let opened : Opened c.args.self.now c.args.iv.now c.args.sealed.now c.in_ok-out.out.items = record {
      key_block = c.has_block_key.ensures;
      iv_block = record { long = c.told-iv; bytes = c.fits-iv };
      bytes = λ k. let fits = c.type_inv.sealed k in omega arith;
      whole = omega arith;
      is = c.in_ok-out.ensures;
    } in
    unsealed_padding c.args.self.now c.args.iv.now c.args.sealed.now c.in_ok-out.out.items opened
    (rw c.as_slice.ensures.value at c.in_default.ensures.none)

pub returns-in_default-clause-opened : goal.returns-in_default-clause-opened
returns-in_default-clause-opened c =
    sym (uncbc_not c.args.self.now c.args.iv.now c.args.sealed.now (returns-in_default-clause-none c))

pub returns-clause-some : goal.returns-clause-some
returns-clause-some c =
    let opened : Opened c.args.self.now c.args.iv.now c.args.sealed.now c.in_ok-out.out.items = record {
      key_block = c.has_block_key.ensures;
      iv_block = record { long = c.told-iv; bytes = c.fits-iv };
      bytes = λ k. let fits = c.type_inv.sealed k in omega arith;
      whole = omega arith;
      is = c.in_ok-out.ensures;
    } in
    let padded : pad (take c.in-Some.n c.in_ok-out.out.items) ≡ c.in_ok-out.out.items =
    rw c.as_slice.ensures.value at c.in-Some.ensures.some.1 in
    rw c.truncate.ensures.items (
      AreBytes-take c.in-Some.n c.in_ok-out.out.items (opened-bytes c.args.self.now c.args.iv.now c.args.sealed.now c.in_ok-out.out.items opened).1,
      sealed_again c.args.self.now c.args.iv.now c.args.sealed.now c.in_ok-out.out.items (take c.in-Some.n c.in_ok-out.out.items) opened padded,
      sealed_shorter c.args.self.now c.args.iv.now c.args.sealed.now c.in_ok-out.out.items (take c.in-Some.n c.in_ok-out.out.items) opened padded,
    )

pub returns-clause-opened : goal.returns-clause-opened
returns-clause-opened c =
    let some = returns-clause-some c in
    sym (uncbc_is c.args.self.now c.args.iv.now c.truncate.new.self.items c.args.sealed.now
    c.has_block_key.ensures (record { long = c.told-iv; bytes = c.fits-iv }) some.0 some.1)
