-- All definitions of the machine, opened at once for examples.
use Rattle.std.specs.Prelude.{ℕ}
use Rattle.hex.specs.Hex.{encode_with}
use Rattle.ks_base.specs.Tables.{find_row, drop_row, put_row}
use Rattle.ks_base.specs.Tree.{above_within, ancestors_in}
use Rattle.ks_base.specs.Trusts.{under_fault, creation_fault, found_use_fault, lineage_within, last_trustor}
use Rattle.ks_payload.specs.IdFields.{is_hex_id, bytes_of_digits, id_field}
use Rattle.ks_payload.specs.Payloads.{spelling, old_spelling}
use Rattle.ks_payload.specs.Readings.{take_number, take_bytes, take_plain_id, take_hex_id, take_id, take_head, take_scope, take_expiry, take_audits, take_payload, payload_of}
use Rattle.ks_ring.specs.Rings.{placed, rising, first_repeated, refusal_of, lowest_number, numbered, next_behind, load_of, rotate_of}
use Rattle.ks_rule.specs.Checks.{kinded, check_of}
use Rattle.ks_rule.specs.Filling.{is_fillable, filled}
use Rattle.ks_rule.specs.Grammar.{IsNotRule}
use Rattle.ks_rule.specs.Kinds.{value_in, value_of}
use Rattle.ks_rule.specs.Tokens.{tokens}
use Rattle.ks_rule.specs.Truth.{truth}
use Rattle.ks_rule.specs.Writing.{written}
use Rattle.ks_base.specs.AppCreds.{add_cred_fault}
use Rattle.ks_base.specs.Factors.{add_secret_fault}
use Rattle.ks_base.specs.TreeFaults.{add_domain_fault, add_project_fault, set_domain_fault, disable_fault, enable_fault, set_project_fault, drop_domain_fault, drop_project_fault}
use Rattle.ks_base.specs.PeopleFaults.{add_user_fault, set_user_fault, drop_user_fault, add_group_fault, set_group_fault, drop_group_fault, join_group_fault, leave_group_fault}
use Rattle.ks_base.specs.Catalog.{interface_word}
use Rattle.ks_base.specs.CatalogFaults.{add_region_fault, add_service_fault, add_endpoint_fault, set_region_fault, set_endpoint_fault, drop_region_fault}
use Rattle.ks_base.specs.Filters.{value_in as filter_value}
use Rattle.ks_base.specs.RoleFaults.{add_fault, set_fault, imply_fault, unimply_fault}
use Rattle.ks_machine.specs.Actions.{requirements}
use Rattle.ks_machine.specs.Admission.{caller_of, subject_of, admitted}
use Rattle.ks_machine.specs.Allowed.{holds_in, allowed}
use Rattle.ks_machine.specs.AppCredCommands.{create_app_cred, list_app_creds, get_app_cred, delete_app_cred}
use Rattle.ks_machine.specs.Assignments.{given_to, effective_of, assignments}
use Rattle.ks_catalog.specs.ProjectCatalog.{catalog_of, endpoint_out, service_out}
use Rattle.ks_catalog.specs.Urls.{filled_behind, filled_url, has_place, name_length}
use Rattle.ks_machine.specs.CatalogCommands.{given_id_free, create_region, create_service, create_endpoint, create_catalog, update_region, update_service, update_endpoint, update_catalog, show_catalog}
use Rattle.ks_machine.specs.Changes.{domain_dropped, project_dropped, user_dropped, group_dropped, role_dropped, effect, apply}
use Rattle.ks_machine.specs.Creations.{create_domain, create_project, create_user, create_group, create_role, create}
use Rattle.ks_machine.specs.Effective.{leads, is_effective, in_order, roles_at, closure}
use Rattle.ks_machine.specs.FactorCommands.{create_secret, list_secrets, get_secret, delete_secret}
use Rattle.ks_machine.specs.Fronts.{replayed, replay, answer, after}
use Rattle.ks_machine.specs.Keys.{rotate_keys, load_keys}
use Rattle.ks_machine.specs.Lawful.{Fits, AreLawful}
use Rattle.ks_machine.specs.Listings.{row_at, get, rows_listed, list, events, delete}
use Rattle.ks_machine.specs.Login.{is_password, by_password, by_secret, by_code, shown_by, shown, with_roles, to_domain, project_on, to_project, to_system, to_trust, scoped, to_cred, scoped_by, told_token, token_given, login}
use Rattle.ks_machine.specs.Members.{list_groups_of, list_projects_of, list_members_of, join, is_in, leave, implied, imply, implication, is_implied, unimply, target_stands, actor_stands, grants_of, all_stand, grant, is_granted, ungrant}
use Rattle.ks_machine.specs.Opened.{rows_opened, opened_state, first_in, ids_fault, names_fault, absent_fault, full_fault, open_fault}
use Rattle.ks_machine.specs.Outcomes.{made_id}
use Rattle.ks_machine.specs.Passwords.{derived, derived_or, change_password}
use Rattle.ks_machine.specs.Room.{room_for}
use Rattle.ks_machine.specs.Rules.{place_named}
use Rattle.ks_machine.specs.Steps.{lacking_of, own_checks, planned_by, planned, checked, step_at}
use Rattle.ks_machine.specs.Targets.{credentials, object, of_body, of_catalog_body, target_of}
use Rattle.ks_machine.specs.TokenLines.{first_opened, payload_lines}
use Rattle.ks_machine.specs.TrustCommands.{roles_asked, new_trust, create_trust, list_trusts, get_trust, delete_trust, roles_of_trust}
use Rattle.ks_machine.specs.Updates.{update_domain, update_project, update_user, update_group, update_role, update}
use Rattle.ks_machine.specs.Validity.{opened, lacking, opens, holder, is_trust_on, is_cred_on, roles_of, held_lines, validity}

unfoldable pub the_machine : ℕ
unfolding encode_with find_row drop_row put_row above_within ancestors_in under_fault creation_fault found_use_fault lineage_within last_trustor is_hex_id bytes_of_digits id_field spelling old_spelling take_number take_bytes take_plain_id take_hex_id take_id take_head take_scope take_expiry take_audits take_payload payload_of placed rising first_repeated refusal_of lowest_number numbered next_behind load_of rotate_of kinded check_of is_fillable filled IsNotRule value_in value_of tokens truth written add_domain_fault add_project_fault set_domain_fault disable_fault enable_fault set_project_fault drop_domain_fault drop_project_fault add_user_fault set_user_fault drop_user_fault add_group_fault set_group_fault drop_group_fault join_group_fault leave_group_fault add_fault set_fault imply_fault unimply_fault add_cred_fault add_secret_fault requirements holds_in allowed given_to effective_of assignments domain_dropped project_dropped user_dropped group_dropped role_dropped effect apply create_domain create_project create_user create_group create_role create leads is_effective in_order roles_at closure replayed replay answer after rotate_keys load_keys Fits AreLawful row_at get rows_listed list events delete is_password by_password by_secret by_code shown_by shown with_roles to_domain project_on to_project to_system to_trust scoped to_cred scoped_by told_token token_given login list_groups_of list_projects_of list_members_of join is_in leave implied imply implication is_implied unimply target_stands actor_stands grants_of all_stand grant is_granted ungrant rows_opened opened_state first_in ids_fault names_fault absent_fault full_fault open_fault made_id derived derived_or change_password room_for place_named lacking_of caller_of subject_of checked step_at credentials object of_body of_catalog_body target_of first_opened payload_lines roles_asked new_trust create_trust list_trusts get_trust delete_trust roles_of_trust update_domain update_project update_user update_group update_role update opened lacking opens holder is_trust_on is_cred_on roles_of held_lines validity interface_word add_region_fault add_service_fault add_endpoint_fault set_region_fault set_endpoint_fault drop_region_fault filter_value catalog_of endpoint_out service_out filled_behind filled_url has_place name_length given_id_free create_region create_service create_endpoint create_catalog update_region update_service update_endpoint update_catalog show_catalog create_app_cred list_app_creds get_app_cred delete_app_cred create_secret list_secrets get_secret delete_secret admitted own_checks planned_by planned
the_machine = 0
