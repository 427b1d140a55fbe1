-- What calls print.
use Rattle.std.proofs.Common.{◌≡◌, ℕ, suc, ◌+◌, Bool, true, false, if◌then◌else◌, eqb, List, [], ◌∷◌, ◌++◌, sym, ap, ◌∙◌, append_assoc, arith}
use Rattle.definition_page.specs.Pieces.{Piece, CallOf}
use Rattle.definition_page.specs.Layout.{NamedCall, named_call, named_calls, first_calls, times, call_of, with_calls}
use Rattle.definition_page.specs.GfmLabelStartFootnote.{Call, call_pieces}
use Rattle.definition_page.proofs.Cuts.{calls_append, shown_append}
use Rattle.laws_footnotes.specs.Section.{number_by, label_by, PrintedCallLaw}

-- a call by its label, its number and its count
abbrev call_by : List ℕ → ℕ → ℕ → Call
call_by label number count = record { label = label; number = number; count = count }

call_is : (place count n : ℕ) (cs : List NamedCall) → call_of place count (suc n) cs ≡ call_by (label_by cs place) (n + number_by cs place) count
call_is place count n [] = let here : suc n ≡ n + 1 = omega arith in ap (λ m. call_by [] m count) here
call_is place count n (c ∷ cs) =
    let m = number_by cs place in
    let moved : suc n + m ≡ n + suc m = omega arith in
    let here : suc n ≡ n + 1 = omega arith in
    elim (eqb c.place place) as (λ (b : Bool). (if b then call_by c.label (suc n) count else call_of place count (suc (suc n)) cs)
    ≡ call_by (if b then c.label else label_by cs place) (n + (if b then 1 else suc m)) count) [
      | true ↦ ap (λ m. call_by c.label m count) here
      | false ↦ call_is place count (suc n) cs ∙ ap (λ m. call_by (label_by cs place) m count) moved
    ]

pub printed_call_law : PrintedCallLaw
printed_call_law options earlier later place label =
    let firsts = first_calls (named_calls (earlier ++ CallOf place label ∷ later)) in
    let before = named_calls earlier in
    let count = suc (times place before) in
    let first = with_calls options firsts [] earlier in
    let rest : List NamedCall → List Piece = λ cs. with_calls options firsts cs later in
    let zero_more : 0 + number_by firsts place ≡ number_by firsts place = omega arith in
    let call : call_of place count 1 firsts ≡ call_by (label_by firsts place) (number_by firsts place) count =
    call_is place count 0 firsts ∙ ap (λ m. call_by (label_by firsts place) m count) zero_more in
    shown_append options firsts [] earlier (CallOf place label ∷ later)
    ∙ sym (append_assoc first (call_pieces options (call_of place count 1 firsts)) (rest (before ++ named_call place label ∷ [])))
    ∙ ap (λ c. first ++ call_pieces options c ++ rest (before ++ named_call place label ∷ [])) call
    ∙ ap (λ cs. first ++ call_pieces options (call_by (label_by firsts place) (number_by firsts place) count) ++ rest cs)
    (sym (calls_append earlier (CallOf place label ∷ [])))
