use Rattle.std.proofs.Common.{rules}
use Rattle.ks_http.specs.Heads.{said_of}
use Rattle.ks_http.specs.steps.Says.{Refuses, named}
use Rattle.ks_http.proofs.SaysLemmas.{refuses_subject, refuses_length, said_all}
use Rattle.ks_http.proofs.parts.RequestParts.read.Goals as goal

pub returns-in_err-subject : goal.returns-in_err-subject
returns-in_err-subject c =
    let fact : Refuses (said_of c.args.method.now c.args.target.now c.args.minor (named c.args.fields.now)) c.in_err-subject.field-0.0 =
    refuses_subject c.args.method.now c.args.target.now c.args.minor (named c.args.fields.now) c.in_ok-path.path c.in_ok-auth.auth
    c.in_err-subject.field-0.0 c.in_ok-path.ensures c.in_ok-auth.ensures c.in_err-subject.ensures in
    search rules

pub returns-in_err-length : goal.returns-in_err-length
returns-in_err-length c =
    let fact : Refuses (said_of c.args.method.now c.args.target.now c.args.minor (named c.args.fields.now)) c.in_err-length.field-0.0 =
    refuses_length c.args.method.now c.args.target.now c.args.minor (named c.args.fields.now) c.in_ok-path.path c.in_ok-auth.auth c.in_ok-subject.subject
    c.in_err-length.field-0.0 c.in_ok-path.ensures c.in_ok-auth.ensures c.in_ok-subject.ensures c.in_err-length.ensures in
    search rules

pub returns : goal.returns
returns c =
    let said = said_all c.args.method.now c.args.target.now c.args.minor (named c.args.fields.now) c.in_ok-path.path c.in_ok-auth.auth c.in_ok-subject.subject
    c.in_ok-length.length c.in_ok-path.ensures c.in_ok-auth.ensures c.in_ok-subject.ensures c.in_ok-length.ensures in
    rw (c.method_of.ensures, c.closes.ensures, c.in_ok-query.ensures, c.query_of.ensures) said
