-- What holds of a list in the grammar holds of an equal list, with equal bytes and names: it is in the grammar, and the same is printed.
use Rattle.std.proofs.Common.{◌≡◌, ℕ, List, sym, subst}
use Rattle.definition_inline.specs.CharacterReference.{Names}
use Rattle.markdown_compile_options.specs.declared.configuration.CompileOptions.{CompileOptions}
use Rattle.compile_html.proofs.Prelude.{Event, MatchesGrammar}
use Rattle.event_meaning.specs.Spelled.{html_of_events}

pub same_list : (names ns : Names) (bytes bs : List ℕ) (events es : List Event) → ns ≡ names → bs ≡ bytes → es ≡ events
    → MatchesGrammar names bytes events → MatchesGrammar ns bs es
same_list names ns bytes bs events es names_are bytes_are events_are matches =
    subst (λ (n : Names). MatchesGrammar n bs es) (sym names_are) (
    subst (λ (b : List ℕ). MatchesGrammar names b es) (sym bytes_are) (
    subst (λ (e : List Event). MatchesGrammar names bytes e) (sym events_are) matches))

pub same_html : (options : CompileOptions) (html : List ℕ) (names ns : Names) (bytes bs : List ℕ) (events es : List Event)
    → ns ≡ names → bs ≡ bytes → es ≡ events → html ≡ html_of_events ns options bs es → html ≡ html_of_events names options bytes events
same_html options html names ns bytes bs events es names_are bytes_are events_are printed =
    subst (λ (n : Names). html ≡ html_of_events n options bytes events) names_are (
    subst (λ (b : List ℕ). html ≡ html_of_events ns options b events) bytes_are (
    subst (λ (e : List Event). html ≡ html_of_events ns options bs e) events_are printed))
