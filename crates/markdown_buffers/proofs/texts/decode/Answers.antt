use Rattle.std.proofs.Common.{◌≡◌, ap, ◌∙◌, subst, length}
use Rattle.markdown_buffers.specs.Pages.{HoldsPage}
use Rattle.markdown_buffers.specs.Texts.{decoded}
use Rattle.markdown_buffers.proofs.WrittenTexts.{text_written}
use Rattle.markdown_buffers.proofs.texts.decode.Goals as goal

pub returns : goal.returns
returns g c =
    let same : c.as_str.result.now ≡ decoded c.args.text.now =
    c.as_str.ensures.value ∙ c.in-Ok-decoded.ensures ∙ ap decoded c.in-Ok.ensures.cases.0 in
    text_written c.args.text.now (decoded c.args.text.now) c.args.buffer.now _ _ _ c.in-Ok.ensures.cases.1 c.write_text.ensures.statuses
    (λ e. subst (λ it. HoldsPage it c.args.buffer.now c.write_text.new.buffer) same (c.write_text.ensures.ok e)) c.write_text.ensures.unchanged
    (c.write_text.ensures.stored ∙ ap length same) c.write_text.ensures.room.0 c.write_text.ensures.room.1
