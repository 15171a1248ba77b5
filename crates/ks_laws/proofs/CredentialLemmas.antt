-- Each change of application credentials, secrets of codes and rules of methods keeps them in range and in their order, with names of
-- their own.
use Rattle.std.proofs.Common.{◌≡◌, Bool, List, [], ◌∷◌, None}
use Rattle.std.specs.List.{filter, find}
use Rattle.std.proofs.lemmas.Bool.{and_from}
use Rattle.std.proofs.lemmas.Cmp.{nat_list_cmp_total}
use Rattle.ks_base.specs.declared.app_creds.AppCredRow.{AppCredRow}
use Rattle.ks_base.specs.declared.factors.MfaRow.{MfaRow}
use Rattle.ks_base.specs.declared.factors.SecretRow.{SecretRow}
use Rattle.ks_base.specs.declared.faults.RowFault.TheVariants as fault
use Rattle.ks_base.specs.AppCreds.{add_cred_fault, cred_id_taken, cred_name_taken, creds_full, is_cred_named, with_cred, without_cred}
use Rattle.ks_base.specs.Rows.{Id, same}
use Rattle.ks_base.specs.Tables.{Among, drop_row, id_cmp, put_row}
use Rattle.ks_base.proofs.OptionLemmas.{none_mapped}
use Rattle.ks_base.proofs.RowLemmas.{among_drop, among_filter}
use Rattle.ks_base.proofs.TableLemmas.{ascending_drop, ascending_filter, ascending_put}
use Rattle.ks_laws.specs.Orderly.{AreCredentialsInOrder, AreCredentialsOrderly}
use Rattle.ks_laws.proofs.ListLemmas.{each_drop, each_filter, each_put, found_none, is_same, names_put, none_apply}
use Rattle.ks_machine.specs.Ranges.{AreMfaRules, IsAppCredInRange, IsTotpSecret}

-- ranges

cred_alone : (row : AppCredRow) (creds : List AppCredRow) → add_cred_fault creds row ≡ None → (other : AppCredRow) → Among creds other →
    other.user ≡ row.user → other.name ≡ row.name → other.id ≡ row.id
unfolding add_cred_fault
cred_alone row creds free other among home name =
    absurd (found_none (is_cred_named row.user row.name) creds other
    (none_mapped (λ holder. fault.NameTaken holder.id) (find (is_cred_named row.user row.name) creds)
    (none_apply (cred_name_taken creds row ∷ creds_full creds ∷ cred_id_taken creds row.id ∷ []) free).0) among
    (and_from (same other.user row.user) (same other.name row.name) (is_same other.user row.user home) (is_same other.name row.name name)))

pub cred_put : (row : AppCredRow) (creds : List AppCredRow) (secrets : List SecretRow) (rules : List MfaRow) → IsAppCredInRange row → add_cred_fault creds row ≡ None →
    AreCredentialsOrderly creds secrets rules → AreCredentialsOrderly (with_cred row creds) secrets rules
cred_put row creds secrets rules range free old = record {
  app_creds = each_put (λ (r : AppCredRow). r.id) IsAppCredInRange row creds range old.app_creds;
  names = names_put (λ (r : AppCredRow). r.id) (λ (r : AppCredRow). r.user) (λ (r : AppCredRow). r.name) row creds (cred_alone row creds free) old.names;
  secrets_range = old.secrets_range;
  rules_range = old.rules_range;
}

pub cred_dropped : (id : Id) (creds : List AppCredRow) (secrets : List SecretRow) (rules : List MfaRow) → AreCredentialsOrderly creds secrets rules →
    AreCredentialsOrderly (without_cred id creds) secrets rules
cred_dropped id creds secrets rules old = record {
  app_creds = each_drop (λ (r : AppCredRow). r.id) IsAppCredInRange id creds old.app_creds;
  names = λ a b first second.
      old.names a b (among_drop id_cmp (λ (r : AppCredRow). r.id) id creds a first).0 (among_drop id_cmp (λ (r : AppCredRow). r.id) id creds b second).0;
  secrets_range = old.secrets_range;
  rules_range = old.rules_range;
}

-- some of the credentials go
pub creds_left : (left : AppCredRow → Bool) (creds : List AppCredRow) (secrets : List SecretRow) (rules : List MfaRow) → AreCredentialsOrderly creds secrets rules →
    AreCredentialsOrderly (filter left creds) secrets rules
creds_left left creds secrets rules old = record {
  app_creds = each_filter IsAppCredInRange left creds old.app_creds;
  names = λ a b first second. old.names a b (among_filter left creds a first).0 (among_filter left creds b second).0;
  secrets_range = old.secrets_range;
  rules_range = old.rules_range;
}

pub secret_put : (row : SecretRow) (creds : List AppCredRow) (secrets : List SecretRow) (rules : List MfaRow) → IsTotpSecret row.secret →
    AreCredentialsOrderly creds secrets rules → AreCredentialsOrderly creds (put_row id_cmp (λ r. r.id) row secrets) rules
secret_put row creds secrets rules range old = record {
  app_creds = old.app_creds;
  names = old.names;
  secrets_range = each_put (λ (r : SecretRow). r.id) (λ (r : SecretRow). IsTotpSecret r.secret) row secrets range old.secrets_range;
  rules_range = old.rules_range;
}

pub secret_dropped : (id : Id) (creds : List AppCredRow) (secrets : List SecretRow) (rules : List MfaRow) → AreCredentialsOrderly creds secrets rules →
    AreCredentialsOrderly creds (drop_row id_cmp (λ r. r.id) id secrets) rules
secret_dropped id creds secrets rules old = record {
  app_creds = old.app_creds;
  names = old.names;
  secrets_range = each_drop (λ (r : SecretRow). r.id) (λ (r : SecretRow). IsTotpSecret r.secret) id secrets old.secrets_range;
  rules_range = old.rules_range;
}

pub rules_put : (row : MfaRow) (creds : List AppCredRow) (secrets : List SecretRow) (rules : List MfaRow) → AreMfaRules row.rules →
    AreCredentialsOrderly creds secrets rules → AreCredentialsOrderly creds secrets (put_row id_cmp (λ r. r.user) row rules)
rules_put row creds secrets rules range old = record {
  app_creds = old.app_creds;
  names = old.names;
  secrets_range = old.secrets_range;
  rules_range = each_put (λ (r : MfaRow). r.user) (λ (r : MfaRow). AreMfaRules r.rules) row rules range old.rules_range;
}

-- some of the secrets and of the rules go
pub factors_left : (secret_left : SecretRow → Bool) (rules_left : MfaRow → Bool) (creds : List AppCredRow) (secrets : List SecretRow) (rules : List MfaRow) →
    AreCredentialsOrderly creds secrets rules → AreCredentialsOrderly creds (filter secret_left secrets) (filter rules_left rules)
factors_left secret_left rules_left creds secrets rules old = record {
  app_creds = old.app_creds;
  names = old.names;
  secrets_range = each_filter (λ (r : SecretRow). IsTotpSecret r.secret) secret_left secrets old.secrets_range;
  rules_range = each_filter (λ (r : MfaRow). AreMfaRules r.rules) rules_left rules old.rules_range;
}

pub user_factors_dropped : (id : Id) (secret_left : SecretRow → Bool) (creds : List AppCredRow) (secrets : List SecretRow) (rules : List MfaRow) →
    AreCredentialsOrderly creds secrets rules → AreCredentialsOrderly creds (filter secret_left secrets) (drop_row id_cmp (λ r. r.user) id rules)
user_factors_dropped id secret_left creds secrets rules old = record {
  app_creds = old.app_creds;
  names = old.names;
  secrets_range = each_filter (λ (r : SecretRow). IsTotpSecret r.secret) secret_left secrets old.secrets_range;
  rules_range = each_drop (λ (r : MfaRow). r.user) (λ (r : MfaRow). AreMfaRules r.rules) id rules old.rules_range;
}

-- order

pub ordered_cred_put : (row : AppCredRow) (creds : List AppCredRow) (secrets : List SecretRow) (rules : List MfaRow) → AreCredentialsInOrder creds secrets rules →
    AreCredentialsInOrder (with_cred row creds) secrets rules
ordered_cred_put row creds secrets rules old = record {
  app_creds = ascending_put id_cmp (λ (r : AppCredRow). r.id) nat_list_cmp_total row creds old.app_creds;
  secrets_order = old.secrets_order;
  rules_order = old.rules_order;
}

pub ordered_cred_dropped : (id : Id) (creds : List AppCredRow) (secrets : List SecretRow) (rules : List MfaRow) → AreCredentialsInOrder creds secrets rules →
    AreCredentialsInOrder (without_cred id creds) secrets rules
ordered_cred_dropped id creds secrets rules old = record {
  app_creds = ascending_drop id_cmp (λ (r : AppCredRow). r.id) id creds old.app_creds;
  secrets_order = old.secrets_order;
  rules_order = old.rules_order;
}

pub ordered_creds_left : (left : AppCredRow → Bool) (creds : List AppCredRow) (secrets : List SecretRow) (rules : List MfaRow) →
    AreCredentialsInOrder creds secrets rules → AreCredentialsInOrder (filter left creds) secrets rules
ordered_creds_left left creds secrets rules old = record {
  app_creds = ascending_filter id_cmp (λ (r : AppCredRow). r.id) left creds old.app_creds;
  secrets_order = old.secrets_order;
  rules_order = old.rules_order;
}

pub ordered_secret_put : (row : SecretRow) (creds : List AppCredRow) (secrets : List SecretRow) (rules : List MfaRow) → AreCredentialsInOrder creds secrets rules →
    AreCredentialsInOrder creds (put_row id_cmp (λ r. r.id) row secrets) rules
ordered_secret_put row creds secrets rules old = record {
  app_creds = old.app_creds;
  secrets_order = ascending_put id_cmp (λ (r : SecretRow). r.id) nat_list_cmp_total row secrets old.secrets_order;
  rules_order = old.rules_order;
}

pub ordered_secret_dropped : (id : Id) (creds : List AppCredRow) (secrets : List SecretRow) (rules : List MfaRow) → AreCredentialsInOrder creds secrets rules →
    AreCredentialsInOrder creds (drop_row id_cmp (λ r. r.id) id secrets) rules
ordered_secret_dropped id creds secrets rules old = record {
  app_creds = old.app_creds;
  secrets_order = ascending_drop id_cmp (λ (r : SecretRow). r.id) id secrets old.secrets_order;
  rules_order = old.rules_order;
}

pub ordered_rules_put : (row : MfaRow) (creds : List AppCredRow) (secrets : List SecretRow) (rules : List MfaRow) → AreCredentialsInOrder creds secrets rules →
    AreCredentialsInOrder creds secrets (put_row id_cmp (λ r. r.user) row rules)
ordered_rules_put row creds secrets rules old = record {
  app_creds = old.app_creds;
  secrets_order = old.secrets_order;
  rules_order = ascending_put id_cmp (λ (r : MfaRow). r.user) nat_list_cmp_total row rules old.rules_order;
}

pub ordered_factors_left : (secret_left : SecretRow → Bool) (rules_left : MfaRow → Bool) (creds : List AppCredRow) (secrets : List SecretRow) (rules : List MfaRow) →
    AreCredentialsInOrder creds secrets rules → AreCredentialsInOrder creds (filter secret_left secrets) (filter rules_left rules)
ordered_factors_left secret_left rules_left creds secrets rules old = record {
  app_creds = old.app_creds;
  secrets_order = ascending_filter id_cmp (λ (r : SecretRow). r.id) secret_left secrets old.secrets_order;
  rules_order = ascending_filter id_cmp (λ (r : MfaRow). r.user) rules_left rules old.rules_order;
}

pub ordered_user_dropped : (id : Id) (secret_left : SecretRow → Bool) (creds : List AppCredRow) (secrets : List SecretRow) (rules : List MfaRow) →
    AreCredentialsInOrder creds secrets rules → AreCredentialsInOrder creds (filter secret_left secrets) (drop_row id_cmp (λ r. r.user) id rules)
ordered_user_dropped id secret_left creds secrets rules old = record {
  app_creds = old.app_creds;
  secrets_order = ascending_filter id_cmp (λ (r : SecretRow). r.id) secret_left secrets old.secrets_order;
  rules_order = ascending_drop id_cmp (λ (r : MfaRow). r.user) id rules old.rules_order;
}
