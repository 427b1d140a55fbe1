-- Strings that were read ahead of the rows, one after another.
use Rattle.std.proofs.Common.{◌≡◌, ℕ, ◌+◌, Bool, true, false, if◌then◌else◌, List, ◌∷◌, Option, Some, sym, ap, ◌∙◌, arith, drop, get_or}
use Rattle.compile_rows.proofs.Prelude.{AreLeft, Event, first_raw, first_target, is_listed, LinkTexts, media_names, Name, Names, option_map, raw_after}
use Rattle.compile_rows.proofs.Prelude.{raws_view, sequence_of, Spelled, spelled_by, SpelledStrings, Target, targets_view, Walk}
use Rattle.std.proofs.lemmas.List.{get_or-drop, drop-drop}
use Rattle.compile_strings.specs.RawTexts.{whole_by}
use Rattle.compile_rows.specs.Ahead.{AreStringsOf}
use Rattle.compile_strings.specs.Spelled.{no_spelled, joined_before}
use Rattle.compile_rows.specs.declared.rows.PartStrings.{PartStrings}

-- ---- one of a list, from its front on

pub next_is : {X : Type 0} (xs : List X) (n : ℕ) (d x : X) (others : List X) → drop n xs ≡ x ∷ others → get_or xs n d ≡ x
next_is xs n d x others h =
    let e : n ≡ n + 0 = omega arith in
    ap (λ k. get_or xs k d) e ∙ sym (get_or-drop n xs 0 d) ∙ ap (λ l. get_or l 0 d) h

pub after_next : {X : Type 0} (xs : List X) (n : ℕ) (x : X) (others : List X) → drop n xs ≡ x ∷ others → drop (n + 1) xs ≡ others
after_next xs n x others h = sym (drop-drop 1 n xs) ∙ ap (drop 1) h

-- ---- those that a walk has not used

-- the text of raw text, if the name of its sequences is known
abbrev pub raw_of : List ℕ → Option Name → List Event → Option (List ℕ)
raw_of bytes found events = option_map (λ sequence. raw_after bytes sequence false 0 events) found

target_by : {X : Type 0} (b : Bool) (xs : List X) (n : ℕ) (d x : X) (others : List X) → drop n xs ≡ (if b then x ∷ others else others) → b ≡ true
    → get_or xs n d ≡ x
target_by true xs n d x others h t = next_is xs n d x others h
target_by false xs n d x others h t = absurd (cc)

others_by : {X : Type 0} (b : Bool) (xs : List X) (n : ℕ) (x : X) (others : List X) → drop n xs ≡ (if b then x ∷ others else others)
    → drop (if b then n + 1 else n) xs ≡ others
others_by true xs n x others h = after_next xs n x others h
others_by false xs n x others h = h

module _ {A : Type 0} (strings : SpelledStrings A) (at : ℕ → LinkTexts) (names : Names) (bytes : List ℕ) (leads : Target → LinkTexts) (name : Name)
    (events : List Event) where
  pub target_now : (n : ℕ) (others : List Spelled) → drop n (targets_view at strings) ≡ first_target names bytes leads name events others
      → is_listed media_names name ≡ true → get_or (targets_view at strings) n no_spelled ≡ spelled_by names bytes leads name events
  target_now n others h t =
      target_by (is_listed media_names name) (targets_view at strings) n no_spelled (spelled_by names bytes leads name events) others h t

  pub targets_left : (n : ℕ) (others : List Spelled) → drop n (targets_view at strings) ≡ first_target names bytes leads name events others
      → drop (if is_listed media_names name then n + 1 else n) (targets_view at strings) ≡ others
  targets_left n others h =
      others_by (is_listed media_names name) (targets_view at strings) n (spelled_by names bytes leads name events) others h

  pub enter_left : (old next : Walk A) (others : List Spelled) (raws after : List (List ℕ))
      → AreLeft at strings old (first_target names bytes leads name events others) after
      → next.targets ≡ (if is_listed media_names name then old.targets + 1 else old.targets) → drop next.raw_texts (raws_view strings) ≡ raws
      → AreLeft at strings next others raws
  enter_left old next others raws after left t r =
      record {
        targets = ap (λ (k : ℕ). drop k (targets_view at strings)) t ∙ targets_left old.targets others left.targets;
        raws = r;
      }

  pub strings_of : (old : Walk A) (part : PartStrings A) (others : List Spelled) (after : List (List ℕ))
      → AreLeft at strings old (first_target names bytes leads name events others) after → part.strings.now ≡ strings → part.target ≡ old.targets
      → option_map (λ text. text.now) part.raw_text ≡ raw_of bytes (sequence_of name) events → AreStringsOf names bytes leads at part name events
  strings_of old part others after left s t r =
      record {
        spelled =
            λ m.
            ap (λ (z : SpelledStrings A). get_or (targets_view at z) part.target no_spelled) s
            ∙ ap (λ (k : ℕ). get_or (targets_view at strings) k no_spelled) t
            ∙ target_now old.targets others left.targets m;
        raw_text = r;
      }

module _ (bytes : List ℕ) (name sequence : Name) (events : List Event) (raws : List (List ℕ)) where
  abbrev raw : List ℕ
  raw = raw_after bytes sequence false 0 events

  pub joined_as : (o : Option (List ℕ)) → sequence_of name ≡ Some sequence → o ≡ whole_by bytes sequence events
      → first_raw bytes (sequence_of name) events raws ≡ joined_before o raw raws
  joined_as o s w =
      ap (λ (f : Option Name). first_raw bytes f events raws) s ∙ ap (λ (z : Option (List ℕ)). joined_before z raw raws) (sym w)

  pub raw_as : (text : List ℕ) → sequence_of name ≡ Some sequence → text ≡ raw → Some text ≡ raw_of bytes (sequence_of name) events
  raw_as text s t = ap (λ (z : List ℕ). let some : Option (List ℕ) = Some z in some) t ∙ ap (λ (f : Option Name). raw_of bytes f events) (sym s)
