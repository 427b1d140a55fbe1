-- Reading comes to one outcome.
use Rattle.std.proofs.Common.{◌≡◌, Bool, true, false, List, [], refl, sym, subst}
use Rattle.engine_states.specs.declared.state.State.{State}
use Rattle.markdown_engine.specs.Reading.{Config, Frame, Steps, Runs, ends-ok, ends-nok, next, retry, first, second, after_success, hand_on}
use Rattle.markdown_engine.specs.VirtualText.{Text}

-- whatever two readings of a text from one configuration come to is the same
pub one_outcome : {M : Type 0} {text : Text} {step : Steps M} {c d e : Config M} {fs : List (Frame M)} {s : State} {v w : Bool} → Runs text step c fs s d v
    → Runs text step c fs s e w → (d ≡ e) × (v ≡ w)
one_outcome ends-ok ends-ok = (refl, refl)
one_outcome ends-nok ends-nok = (refl, refl)
one_outcome (next r) (next q) = one_outcome r q
one_outcome (retry r) (retry q) = one_outcome r q
one_outcome {M = M} {text = text} {step = step} {e = e} {w = w} (first {f = f} r k) (first q l) =
    let same = one_outcome r q in
    one_outcome k (subst (λ (z : Config M). Runs text step (after_success f z) [] f.ok e w) (sym same.0) l)
one_outcome (first r k) (second q l) = absurd (let f : true ≡ false = (one_outcome r q).1 in cc)
one_outcome (second r k) (first q l) = absurd (let f : false ≡ true = (one_outcome r q).1 in cc)
one_outcome {M = M} {text = text} {step = step} {e = e} {w = w} (second {f = f} r k) (second q l) =
    let same = one_outcome r q in
    one_outcome k (subst (λ (z : Config M). Runs text step (hand_on f.start z) [] f.nok e w) (sym same.0) l)
