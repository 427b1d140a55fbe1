use Rattle.std.proofs.Common.{◌∙◌, ℕ, List, sym, ap}
use Rattle.compile_strings.proofs.Prelude.{content_codes, first_match, found_target}
use Rattle.compile_strings.proofs.spelled.read_reference.Goals as goal

pub returns-in-Some : goal.returns-in-Some
returns-in-Some g c = λ labels has.
    ap found_target
    (sym c.in-Some.is ∙ c.in_ok-found.ensures labels has
    ∙ ap (λ (z : List ℕ). first_match (content_codes z) labels) (c.deref.ensures.value ∙ c.in_ok-read_label.ensures))

pub returns-in-None : goal.returns-in-None
returns-in-None g c = λ labels has.
    ap found_target
    (sym c.in-None.is ∙ c.in_ok-found.ensures labels has
    ∙ ap (λ (z : List ℕ). first_match (content_codes z) labels) (c.deref.ensures.value ∙ c.in_ok-read_label.ensures))
