-- Letters and references.
use Rattle.std.proofs.Common.{◌≡◌, ℕ, List, [], ◌∷◌, true, false, not, ◌&&◌, codes, refl, sym, ap, ◌∙◌}
use Rattle.html_safe_page.specs.SafePage.{kind, spell_kind, spell_letter, spell_text}
use Rattle.html_safe_page.specs.Reader.{read_text}
use Rattle.html_safe_page.proofs.Text.{by_kind, is_plain, plain_other, read_spelled}
use Rattle.html_listed_page.specs.Tags.{lacks}
use Rattle.html_listed_page.proofs.Cuts.{lacks_append}
use Rattle.std.specs.Option.{unwrap_or}

-- letters are spelled without this byte
abbrev pub IsSpared : ℕ → Type 0
IsSpared c = (b : ℕ) → lacks c (spell_letter b) ≡ true

spared : (c : ℕ) → is_plain (kind c) ≡ false → lacks c (codes "&amp;") ≡ true → lacks c (codes "&quot;") ≡ true → lacks c (codes "&lt;") ≡ true
    → lacks c (codes "&gt;") ≡ true → IsSpared c
spared c h and quote less greater b =
    by_kind (λ b. lacks c (spell_letter b) ≡ true) and quote less greater
    (λ b k. ap (λ kind. lacks c (spell_kind kind b)) k ∙ ap (λ t. not t && true) (plain_other b c k h)) b

pub quote_spared : IsSpared 34
quote_spared = spared 34 refl refl refl refl refl

pub less_spared : IsSpared 60
less_spared = spared 60 refl refl refl refl refl

pub greater_spared : IsSpared 62
greater_spared = spared 62 refl refl refl refl refl

pub text_lacks : (c : ℕ) → IsSpared c → (text x : List ℕ) → lacks c x ≡ true → lacks c (spell_text text x) ≡ true
text_lacks c h [] x k = k
text_lacks c h (b ∷ bs) x k = lacks_append c (spell_letter b) (spell_text bs x) (h b) (text_lacks c h bs x k)

-- a text has one spelling
pub one_text : (v w : List ℕ) → spell_text v [] ≡ spell_text w [] → v ≡ w
one_text v w e = ap (λ o. unwrap_or o []) (sym (read_spelled v) ∙ ap read_text e ∙ read_spelled w)
