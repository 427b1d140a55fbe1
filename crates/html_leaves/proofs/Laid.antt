-- What is added to the innermost text that is open.
use Rattle.std.proofs.Common.{◌≡◌, ℕ, List, ◌++◌, ap, cond}
use Rattle.html_leaves.proofs.Prelude.{LayoutState, OnOk, with_text}
use Rattle.std.specs.Result.{is_ok}
use Rattle.std.specs.declared.result.Result.{Result}
use Rattle.std.specs.declared.result.Result.TheVariants.{Ok, Err}

-- what becomes of the text becomes of what is laid out
pub text_laid : {T E : Type 0} (r : Result T E) (l : LayoutState) (now target : List ℕ) → OnOk r (now ≡ target) → OnOk r (with_text l now ≡ with_text l target)
text_laid (Ok x) l now target h = ap (with_text l) h
text_laid (Err error) l now target h = tt

-- a text that is pushed last
pub pushed : {T E : Type 0} (r : Result T E) (l : LayoutState) (now out more : List ℕ) → now ≡ cond (is_ok r) (out ++ more) out
    → OnOk r (with_text l now ≡ with_text l (out ++ more))
pushed (Ok x) l now out more h = ap (with_text l) h
pushed (Err error) l now out more h = tt
