-- The rules that a policy has where its text says nothing else, in the order of their names.
-- Source: Keystone's roles and scopes, narrowed.
use Rattle.std.specs.Prelude.{List, [], ◌∷◌, codes}
use Rattle.ks_policy.specs.declared.texts.RuleText.{RuleText}
use Rattle.ks_policy.specs.declared.defaults.DefaultRule.{DefaultRule}

-- the rules where a policy says nothing else
abbrev pub defaults : List RuleText
defaults =
    record { name = codes "admin_or_owner"; text = codes "rule:admin_required or rule:owner" } ∷
    record { name = codes "admin_required"; text = codes "role:admin" } ∷
    record { name = codes "default"; text = codes "rule:admin_required" } ∷
    record { name = codes "identity:check_token"; text = codes "rule:admin_required or rule:service_role or rule:token_subject" } ∷
    record { name = codes "identity:check_user_in_group"; text = codes "rule:admin_or_owner" } ∷
    record { name = codes "identity:create_application_credential"; text = codes "rule:owner" } ∷
    record { name = codes "identity:create_trust"; text = codes "@" } ∷
    record { name = codes "identity:delete_application_credential"; text = codes "rule:admin_or_owner" } ∷
    record { name = codes "identity:delete_trust"; text = codes "rule:admin_required or user_id:%(target.trust.trustor_user_id)s" } ∷
    record { name = codes "identity:get_application_credential"; text = codes "rule:admin_or_owner" } ∷
    record { name = codes "identity:get_domain"; text = codes "rule:admin_required or user_domain_id:%(target.domain.id)s" } ∷
    record { name = codes "identity:get_project"; text = codes "rule:admin_required or project_id:%(target.project.id)s" } ∷
    record { name = codes "identity:get_region"; text = codes "@" } ∷
    record { name = codes "identity:get_trust"; text = codes "rule:admin_required or rule:trust_party" } ∷
    record { name = codes "identity:get_user"; text = codes "rule:admin_or_owner" } ∷
    record { name = codes "identity:list_application_credentials"; text = codes "rule:admin_or_owner" } ∷
    record { name = codes "identity:list_groups_for_user"; text = codes "rule:admin_or_owner" } ∷
    record { name = codes "identity:list_regions"; text = codes "@" } ∷
    record { name = codes "identity:list_revoke_events"; text = codes "rule:admin_required or rule:service_role" } ∷
    record { name = codes "identity:list_roles_for_trust"; text = codes "rule:admin_required or rule:trust_party" } ∷
    record { name = codes "identity:list_trusts"; text = codes "rule:admin_required or rule:trust_party" } ∷
    record { name = codes "identity:list_user_projects"; text = codes "rule:admin_or_owner" } ∷
    record { name = codes "identity:revoke_token"; text = codes "rule:admin_required or rule:token_subject" } ∷
    record { name = codes "identity:validate_token"; text = codes "rule:admin_required or rule:service_role or rule:token_subject" } ∷
    record { name = codes "owner"; text = codes "user_id:%(user_id)s" } ∷
    record { name = codes "service_role"; text = codes "role:service" } ∷
    record { name = codes "token_subject"; text = codes "user_id:%(target.token.user_id)s" } ∷
    record { name = codes "trust_party"; text = codes "user_id:%(target.trust.trustor_user_id)s or user_id:%(target.trust.trustee_user_id)s" } ∷
    []

-- a rule of the code's table
abbrev pub text_of : DefaultRule → RuleText
text_of rule = record { name = rule.name.now; text = rule.text.now }
