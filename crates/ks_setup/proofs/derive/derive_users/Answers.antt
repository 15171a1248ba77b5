use Rattle.std.proofs.Common.{◌∙◌, sym}
use Rattle.std.specs.Vec.Iter.{into_iter_items}
use Rattle.ks_setup.proofs.DeriveLemmas.{deriving_end, deriving_given, deriving_more, deriving_none}
use Rattle.ks_setup.proofs.derive.derive_users.Goals as goal

pub loop-user-init : goal.loop-user-init
loop-user-init c =
    rw (c.into_iter-user-iterator.ensures.into_iter_gives.0 ∙ c.into_vec-user-items.ensures, c.in_ok-rows.ensures.items, c.iter-left.ensures.rest)
    (deriving_none c.args.rounds c.args.users c.args.salts.now c.requires.as_many)

pub derive_user-requires-clause-given : goal.derive_user-requires-clause-given
derive_user-requires-clause-given c =
    deriving_given c.args.rounds c.args.users (into_iter_items c.loop-user.user-iterator) (into_iter_items c.next.new.self) c.in-Some.user
    c.loop-user.rows.items c.args.salts.now c.loop-user.left.rest.now c.in-Some.ensures.steps.0 c.loop-user.invariant

pub loop-user-preserved : goal.loop-user-preserved
loop-user-preserved c =
    rw c.in_ok-push.ensures.items
    (deriving_more c.args.rounds c.args.users (into_iter_items c.loop-user.user-iterator) (into_iter_items c.next.new.self) c.in-Some.user
    c.loop-user.rows.items c.derive_user.result c.args.salts.now c.loop-user.left.rest.now c.derive_user.new.salts.rest.now
    c.in-Some.ensures.steps.0 c.loop-user.invariant c.derive_user.ensures.row c.derive_user.ensures.left)

pub returns-clause-rows : goal.returns-clause-rows
returns-clause-rows c =
    rw c.from_vec.ensures (deriving_end c.args.rounds c.args.users (into_iter_items c.loop-user.user-iterator) c.loop-user.rows.items c.args.salts.now
    c.loop-user.left.rest.now (sym c.loop-user.user-iterator.rest.ok.0 ∙ c.in-None.ensures.steps.0) c.loop-user.invariant).0

pub returns-clause-whole : goal.returns-clause-whole
returns-clause-whole c =
    (deriving_end c.args.rounds c.args.users (into_iter_items c.loop-user.user-iterator) c.loop-user.rows.items c.args.salts.now
    c.loop-user.left.rest.now (sym c.loop-user.user-iterator.rest.ok.0 ∙ c.in-None.ensures.steps.0) c.loop-user.invariant).1
