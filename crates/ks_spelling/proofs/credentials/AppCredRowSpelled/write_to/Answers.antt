use Rattle.ks_spelling.specs.Leaves.{number32, number64}
use Rattle.ks_spelling.specs.Wholes.{both, listed}
use Rattle.ks_spelling.specs.Variants.{truth, optional}
use Rattle.ks_spelling.specs.Values.{id_code, text_code}
use Rattle.ks_spelling.specs.Rows.{app_cred_code, password_code}
use Rattle.ks_spelling.proofs.CodeLemmas.{writes_last}
use Rattle.ks_spelling.proofs.credentials.AppCredRowSpelled.write_to.Goals as goal

-- from the last field to the first
pub returns : goal.returns
unfolding app_cred_code
returns c =
    let row = c.args.self.now in
    let r = c.write_to-9.result in
    let new = c.write_to-9.new.into.items in
    let after_7 = c.write_to-7.new.into.items in
    let after_6 = c.write_to-6.new.into.items in
    let after_5 = c.write_to-5.new.into.items in
    let after_4 = c.write_to-4.new.into.items in
    let after_3 = c.write_to-3.new.into.items in
    let after_2 = c.write_to-2.new.into.items in
    let after_1 = c.write_to.new.into.items in
    let code_8 = both (optional number64) truth in
    let code_7 = both password_code code_8 in
    let code_6 = both (listed number32 id_code) code_7 in
    let code_5 = both text_code code_6 in
    let code_4 = both text_code code_5 in
    let code_3 = both id_code code_4 in
    let code_2 = both id_code code_3 in
    let from_8 = writes_last r (optional number64) truth row.expires row.unrestricted after_7 c.write_to-8.new.into.items new c.in_ok-write_to-8.ensures c.write_to-9.ensures in
    let from_7 = writes_last r password_code code_8 row.secret (row.expires, row.unrestricted) after_6 after_7 new c.in_ok-write_to-7.ensures from_8 in
    let from_6 = writes_last r (listed number32 id_code) code_7 row.roles (row.secret, (row.expires, row.unrestricted)) after_5 after_6 new c.in_ok-write_to-6.ensures from_7 in
    let from_5 = writes_last r text_code code_6 row.description (row.roles, (row.secret, (row.expires, row.unrestricted))) after_4 after_5 new c.in_ok-write_to-5.ensures from_6 in
    let from_4 = writes_last r text_code code_5 row.name (row.description, (row.roles, (row.secret, (row.expires, row.unrestricted)))) after_3 after_4 new c.in_ok-write_to-4.ensures from_5 in
    let from_3 = writes_last r id_code code_4 row.project (row.name, (row.description, (row.roles, (row.secret, (row.expires, row.unrestricted))))) after_2 after_3 new c.in_ok-write_to-3.ensures from_4 in
    let from_2 = writes_last r id_code code_3 row.user (row.project, (row.name, (row.description, (row.roles, (row.secret, (row.expires, row.unrestricted)))))) after_1 after_2 new c.in_ok-write_to-2.ensures from_3 in
    writes_last r id_code code_2 row.id (row.user, (row.project, (row.name, (row.description, (row.roles, (row.secret, (row.expires, row.unrestricted))))))) c.args.into.now.items after_1 new c.in_ok-write_to.ensures from_2
