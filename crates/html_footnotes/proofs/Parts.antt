-- Parts that are printed one after another.
use Rattle.std.proofs.Common.{◌≡◌, ℕ, List, ◌++◌, Ok, Err, ap, ◌∙◌, append_assoc}
use Rattle.html_footnotes.proofs.Prelude.{OnOk}
use Rattle.std.specs.Prelude.{Result, if◌then◌else◌}
use Rattle.std.specs.Result.{is_ok}

-- what a print leaves, unless memory ran out
pub on_ok : {A B C : Type 0} (r : Result B C) (new done old : A) → new ≡ (if is_ok r then done else old) → OnOk r (new ≡ done)
on_ok (Ok x) new done old is = is
on_ok (Err e) new done old is = tt

pub three : (s a b c : List ℕ) → ((s ++ a) ++ b) ++ c ≡ s ++ (a ++ b ++ c)
three s a b c = simp append_assoc

pub four : (s a b c d : List ℕ) → (((s ++ a) ++ b) ++ c) ++ d ≡ s ++ (a ++ (b ++ (c ++ d)))
four s a b c d = simp append_assoc

pub five : (s a b c d e : List ℕ) → ((((s ++ a) ++ b) ++ c) ++ d) ++ e ≡ s ++ (a ++ b ++ c ++ d ++ e)
five s a b c d e = simp append_assoc

pub five_prints : (s a b c d e w x y z : List ℕ) → w ≡ s ++ a → x ≡ w ++ b → y ≡ x ++ c → z ≡ y ++ d → z ++ e ≡ s ++ (a ++ b ++ c ++ d ++ e)
five_prints s a b c d e w x y z first second third fourth =
    ap (λ l. l ++ e) (fourth ∙ ap (λ l. l ++ d) (third ∙ ap (λ l. l ++ c) (second ∙ ap (λ l. l ++ b) first))) ∙ five s a b c d e
