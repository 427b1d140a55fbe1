use Rattle.std.proofs.Common.{◌<◌, sym, ◌∙◌, ltb-true}
use Rattle.markdown_tables.specs.PunctuationLaws.{builtin_punctuation-ascii}
use Rattle.markdown_tables.proofs.punctuation.is_unicode_punctuation.Goals as goal

pub returns-then-is_ascii : goal.returns-then-is_ascii
returns-then-is_ascii c =
    let below : c.args.character < 128 = ltb-true c.args.character 128 (sym c.is_ascii.ensures ∙ c.if-is_ascii.true) in
    c.is_ascii_punctuation.ensures.value ∙ builtin_punctuation-ascii c.args.character below
