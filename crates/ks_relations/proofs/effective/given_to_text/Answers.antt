use Rattle.std.proofs.Common.{sym, ◌∙◌}
use Rattle.ks_auth.specs.Answers.{rows_told}
use Rattle.ks_machine.specs.Assignments.{targets}
use Rattle.ks_payload.proofs.CodeLemmas.{not_id}
use Rattle.ks_relations.proofs.NoIds.{nothing_given}
use Rattle.ks_relations.proofs.effective.given_to_text.Goals as goal

pub none_is_member-requires : goal.none_is_member-requires
none_is_member-requires c is =
    not_id c.as_slice-bytes.result.now c.read.result c.in-Err.field-0 c.in-Err.is c.read.ensures.empty c.read.ensures.too_long c.read.ensures.byte is

pub none_is_granted-requires : goal.none_is_granted-requires
none_is_granted-requires c is =
    not_id c.as_slice-bytes.result.now c.read.result c.in-Err.field-0 c.in-Err.is c.read.ensures.empty c.read.ensures.too_long c.read.ensures.byte is

pub returns-in-Err : goal.returns-in-Err
returns-in-Err c =
    c.new.ensures
    ∙ sym
    (nothing_given (rows_told c.args.tables.now) c.args.user.now (targets (rows_told c.args.tables.now))
    (rw (c.members.ensures, c.as_slice-bytes.ensures.bytes) at c.none_is_member.ensures)
    (rw (c.iter.ensures.rows, c.as_slice-bytes.ensures.bytes) at c.none_is_granted.ensures))
