use Rattle.std.proofs.Common.{sym, ap, ◌∙◌}
use Rattle.ks_base.specs.Revocation.{is_revoked}
use Rattle.ks_auth.specs.Answers.{rows_told}
use Rattle.ks_auth.proofs.RangeLemmas.{user_stands}
use Rattle.ks_auth.proofs.LineLemmas.{all_hold, stops_cred, stops_revoked, stops_roles, stops_scope, stops_trust, stops_user}
use Rattle.ks_auth.proofs.validity.judge.Goals as goal

pub returns-then-test-clause-verdict : goal.returns-then-test-clause-verdict
returns-then-test-clause-verdict c events stands =
    stops_revoked (rows_told c.args.tables.now) events c.args.moment c.args.payload c.args.issued
    (c.if-test.ensures.history _ stands c.requires.time ∙ ap (λ holder. is_revoked events holder c.args.issued) c.holder.ensures)

pub returns-then-not-is_user_on-clause-verdict : goal.returns-then-not-is_user_on-clause-verdict
returns-then-not-is_user_on-clause-verdict c events stands =
    stops_user (rows_told c.args.tables.now) events c.args.moment c.args.payload c.args.issued
    (c.if-test.ensures.history _ stands c.requires.time ∙ ap (λ holder. is_revoked events holder c.args.issued) c.holder.ensures)
    c.if-not-is_user_on.ensures

pub returns-then-not-is_scope_on-clause-verdict : goal.returns-then-not-is_scope_on-clause-verdict
returns-then-not-is_scope_on-clause-verdict c events stands =
    stops_scope (rows_told c.args.tables.now) events c.args.moment c.args.payload c.args.issued
    (c.if-test.ensures.history _ stands c.requires.time ∙ ap (λ holder. is_revoked events holder c.args.issued) c.holder.ensures)
    c.if-not-is_user_on.ensures c.if-not-is_scope_on.ensures

pub returns-then-not-is_trust_line-clause-verdict : goal.returns-then-not-is_trust_line-clause-verdict
returns-then-not-is_trust_line-clause-verdict c events stands =
    stops_trust (rows_told c.args.tables.now) events c.args.moment c.args.payload c.args.issued
    (c.if-test.ensures.history _ stands c.requires.time ∙ ap (λ holder. is_revoked events holder c.args.issued) c.holder.ensures)
    c.if-not-is_user_on.ensures c.if-not-is_scope_on.ensures c.if-not-is_trust_line.ensures

pub returns-then-not-is_cred_line-clause-verdict : goal.returns-then-not-is_cred_line-clause-verdict
returns-then-not-is_cred_line-clause-verdict c events stands =
    stops_cred (rows_told c.args.tables.now) events c.args.moment c.args.payload c.args.issued
    (c.if-test.ensures.history _ stands c.requires.time ∙ ap (λ holder. is_revoked events holder c.args.issued) c.holder.ensures)
    c.if-not-is_user_on.ensures c.if-not-is_scope_on.ensures c.if-not-is_trust_line.ensures c.if-not-is_cred_line.ensures

pub returns-then-not-branch-clause-verdict : goal.returns-then-not-branch-clause-verdict
returns-then-not-branch-clause-verdict c events stands =
    stops_roles (rows_told c.args.tables.now) events c.args.moment c.args.payload c.args.issued
    (c.if-test.ensures.history _ stands c.requires.time ∙ ap (λ holder. is_revoked events holder c.args.issued) c.holder.ensures)
    c.if-not-is_user_on.ensures c.if-not-is_scope_on.ensures c.if-not-is_trust_line.ensures c.if-not-is_cred_line.ensures
    (sym c.if-not-branch.true ∙ c.in_ok-has_roles.ensures)

pub returns-clause-verdict : goal.returns-clause-verdict
returns-clause-verdict c events stands =
    all_hold (rows_told c.args.tables.now) events c.args.moment c.args.payload c.args.issued c.in_ok-roles.roles
    (c.if-test.ensures.history _ stands c.requires.time ∙ ap (λ holder. is_revoked events holder c.args.issued) c.holder.ensures)
    c.if-not-is_user_on.ensures c.if-not-is_scope_on.ensures c.if-not-is_trust_line.ensures c.if-not-is_cred_line.ensures
    (sym c.if-not-branch.false ∙ c.in_ok-has_roles.ensures) c.in_ok-roles.ensures

pub returns-clause-user : goal.returns-clause-user
returns-clause-user c =
    (c.requires.range, user_stands (rows_told c.args.tables.now) c.args.payload.user c.if-not-is_user_on.ensures)
