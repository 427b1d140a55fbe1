-- Lists of events, with their data cut into bytes.
use Rattle.std.proofs.Common.{sym, ap, ◌∙◌}
use Rattle.std.proofs.lemmas.Bool.{true≢false}
use Rattle.parse_open.proofs.Prelude.{page_of, tree}
use Rattle.parse_open.specs.BytewiseExamples.{RefusedExample}
use Rattle.parse_open.specs.BytewiseLaws.{EventsSpellTheSame}
use Rattle.parse_open.proofs.BytewiseBlocks.{page_same}
use Rattle.parse_open.proofs.BytewiseGrammar.{grammar_is_sound}

pub events_spell_the_same : EventsSpellTheSame
events_spell_the_same = λ names bytes events ns right is.
    let sound = grammar_is_sound names bytes events right in
    sym (page_same names bytes (tree events) sound.0 sound.1) ∙ ap (page_of names bytes) is

pub refused_example : RefusedExample
refused_example = λ names bytes same. true≢false (ap (λ p. p.ends_blank) same)
