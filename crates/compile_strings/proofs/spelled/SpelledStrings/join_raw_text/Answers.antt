use Rattle.std.proofs.Common.{◌∙◌, false}
use Rattle.compile_strings.proofs.Prelude.{IsUtf8-string_bytes, raw_after}
use Rattle.compile_strings.proofs.JoinedLaw.{raws_more}
use Rattle.compile_strings.proofs.spelled.SpelledStrings.join_raw_text.Goals as goal

pub returns-clause-raws : goal.returns-clause-raws
returns-clause-raws g c = λ others raws have.
    let old = c.args.self.now.text in
    let new = c.push_raw_text.new.out in
    raws_more c.args.self.now _ (raw_after c.args.bytes.now c.args.sequence false 0 c.args.events.now) _ others raws (IsUtf8-string_bytes old)
    (IsUtf8-string_bytes new)
    (record { text = c.in_ok-push_raw_text.ensures.text; start = c.len-start.ensures ∙ old.bytes.ok.0; end = c.len-end.ensures ∙ new.bytes.ok.0 })
    c.in_ok-push.ensures.items have
