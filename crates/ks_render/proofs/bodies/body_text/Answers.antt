use Rattle.std.proofs.Common.{◌∙◌}
use Rattle.ks_render.specs.Bodies.{body_of}
use Rattle.ks_render.proofs.Steps.{read_back, text}
use Rattle.ks_render.proofs.bodies.body_text.Goals as goal

pub returns : goal.returns
returns c =
    let body = body_of c.args.reply.now c.args.url.now in
    let is = c.from_vec.ensures ∙ c.into_inner.ensures.items in
    let before = c.new-out.ensures.before ∙ c.in_ok-with_capacity.ensures.items in
    let none = c.new-out.ensures.tokens in
    let told = c.in_ok-write_body.ensures in
    record {
      text = is ∙ text body before none told;
      reads_back = read_back body _ before none told is c.into_inner.ensures.reads_back;
    }
