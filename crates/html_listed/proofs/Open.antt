-- Which raw elements are open in a level, and what parts of raw HTML are good.
use Rattle.std.proofs.Common.{◌≡◌, ℕ, zero, suc, true, List, [], ◌∷◌, ◌++◌, length, drop, refl, sym, ap, subst, append_assoc}
use Rattle.std.proofs.Common.{append-nil}
use Rattle.definition_text.specs.Encode.{encode}
use Rattle.definition_page.specs.Tags.{end_tag}
use Rattle.html_listed.specs.ListedPage.{is_listed_start, is_listed_void}
use Rattle.definition_html.specs.Raw.{RawPart, Text, Begin, Empty, End, Single}
use Rattle.html_listed.specs.Standing.{may_begin}
use Rattle.definition_html.specs.State.{State, state, says, ended_of, all_ended}
use Rattle.html_listed.proofs.Tags.{IsTagWith}

pub says_twice : (s : State) (a b : List ℕ) → says b (says a s) ≡ says (a ++ b) s
says_twice s a b = ap (λ out. state out s.level s.around) (append_assoc s.out a b)

pub says_nothing : (s : State) → s ≡ says [] s
says_nothing s = ap (λ out. state out s.level s.around) (sym (append-nil s.out))

-- ---- open elements

-- each open element began where it may be
abbrev pub AreFit : List (List ℕ) → Type 0
AreFit [] = Unit {0}
AreFit (n ∷ ns) = (may_begin ns n ≡ true) × AreFit ns

-- the last elements end
pub names_ended : (n : ℕ) (names : List (List ℕ)) (s : State) → (ended_of n names s).level.names ≡ drop n names
names_ended zero names s = refl
names_ended (suc n) [] s = refl
names_ended (suc n) (name ∷ names) s = names_ended n names (says (end_tag name) s)

fit_dropped : (n : ℕ) (names : List (List ℕ)) → AreFit names → AreFit (drop n names)
fit_dropped zero names fit = fit
fit_dropped (suc n) [] fit = fit
fit_dropped (suc n) (name ∷ names) fit = fit_dropped n names fit.1

pub fit_ended : (n : ℕ) (names : List (List ℕ)) (s : State) → AreFit names → AreFit (ended_of n names s).level.names
fit_ended n names s fit = subst AreFit (sym (names_ended n names s)) (fit_dropped n names fit)

none_left : (names : List (List ℕ)) (s : State) → (ended_of (length names) names s).level.names ≡ []
none_left [] s = refl
none_left (name ∷ names) s = none_left names (says (end_tag name) s)

-- at the end of a level nothing is open in it
pub none_open : (s : State) → (all_ended s).level.names ≡ []
none_open s = none_left s.level.names s

-- ---- parts of raw HTML

-- a part is an encoded text or a tag of the list
abbrev pub IsGood : RawPart → Type 0
IsGood (Text bytes) = (text : List ℕ) × (bytes ≡ encode text)
IsGood (Begin t) = IsTagWith is_listed_start t
IsGood (Empty t) = IsTagWith is_listed_start t
IsGood (End name) = Unit {0}
IsGood (Single t) = IsTagWith is_listed_void t

-- each of these parts is good
abbrev pub AreGood : List RawPart → Type 0
AreGood [] = Unit {0}
AreGood (part ∷ parts) = IsGood part × AreGood parts
