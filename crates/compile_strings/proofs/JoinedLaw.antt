-- Strings that were joined: what is joined later changes none of them.
use Rattle.std.proofs.Common.{◌≡◌, ◌≤◌, ℕ, ◌-◌, Bool, true, ◌&&◌, if◌then◌else◌, List, [], ◌∷◌, ◌++◌, drop, take, length, map, string_bytes}
use Rattle.std.proofs.Common.{Some, refl, sym, ap, ◌∙◌, append_assoc, arith}
use Rattle.compile_strings.proofs.Prelude.{append-nil, content_codes, HaveRaws, HaveTargets, is_utf8, is_utf8-from_IsUtf8, IsTarget, IsUtf8, link_texts}
use Rattle.compile_strings.proofs.Prelude.{LinkTexts, nowhere, reverse, reverse-append, Spelled, spelled, SpelledStrings, SpelledTarget, target_view, valid}
use Rattle.compile_strings.proofs.Prelude.{valid_is, written}
use Rattle.std.specs.Prelude.{nat_le}
use Rattle.std.proofs.Math.Seq.{take-append_seam, drop-append_seam}
use Rattle.std.proofs.lemmas.Bool.{le-leb}
use Rattle.std.proofs.lemmas.List.{length-append, map-append}
use Rattle.compile_written.proofs.Characters.{text_more}
use Rattle.event_meaning.proofs.Written.{written_codes}
use Rattle.compile_strings.specs.Spelled.{range_text, targets_view, raws_view}
use Rattle.compile_strings.specs.Joined.{IsJoined}
use Rattle.compile_strings.specs.declared.spelled.Range.{Range}
use Rattle.compile_strings.specs.declared.spelled.SpelledTarget.TheVariants as targets

-- ---- a range

abbrev in_range : List ℕ → ℕ → ℕ → List ℕ
in_range text i j = if nat_le i j && nat_le j (length text) then valid (take (j - i) (drop i text)) else []

module _ (old piece later : List ℕ) where
  abbrev whole : List ℕ
  whole = (old ++ piece) ++ later

  apart : whole ≡ old ++ (piece ++ later)
  apart = append_assoc old piece later

  there : take (length (old ++ piece) - length old) (drop (length old) whole) ≡ piece
  there =
      let size : length (old ++ piece) - length old ≡ length piece = omega (arith, length-append old piece) in
      ap (λ (n : ℕ). take n (drop (length old) whole)) size
      ∙ ap (λ (z : List ℕ). take (length piece) (drop (length old) z)) apart
      ∙ ap (take (length piece)) (drop-append_seam old (piece ++ later))
      ∙ take-append_seam piece later

  old_text : is_utf8 old ≡ true → is_utf8 (take (length old) whole) ≡ true
  old_text h = ap is_utf8 (ap (take (length old)) apart ∙ take-append_seam old (piece ++ later)) ∙ h

  both_text : is_utf8 (old ++ piece) ≡ true → is_utf8 (take (length (old ++ piece)) whole) ≡ true
  both_text h = ap is_utf8 (take-append_seam (old ++ piece) later) ∙ h

  piece_text : is_utf8 old ≡ true → is_utf8 (old ++ piece) ≡ true → is_utf8 piece ≡ true
  piece_text h k =
      let order : length old ≤ length (old ++ piece) = omega (arith, length-append old piece) in
      sym (ap is_utf8 there) ∙ sym (text_more whole (length old) (length (old ++ piece)) (old_text h) order) ∙ both_text k

  ranged : is_utf8 old ≡ true → is_utf8 (old ++ piece) ≡ true → in_range whole (length old) (length (old ++ piece)) ≡ piece
  ranged h k =
      let order : length old ≤ length (old ++ piece) = omega (arith, length-append old piece) in
      let within : length (old ++ piece) ≤ length whole = omega (arith, length-append (old ++ piece) later) in
      ap (λ (t : Bool). if t && nat_le (length (old ++ piece)) (length whole) then valid (take (length (old ++ piece) - length old) (drop (length old) whole)) else [])
      (le-leb (length old) (length (old ++ piece)) order)
      ∙ ap (λ (t : Bool). if t then valid (take (length (old ++ piece) - length old) (drop (length old) whole)) else [])
      (le-leb (length (old ++ piece)) (length whole) within)
      ∙ ap valid there
      ∙ valid_is piece (piece_text h k)

-- the range of a piece holds it, whatever is joined later
pub joined_text : (old new piece later : List ℕ) (r : Range) → IsUtf8 old → IsUtf8 new → IsJoined old new r piece → range_text (new ++ later) r ≡ piece
joined_text old new piece later r u w j =
    ap (λ (z : List ℕ). range_text (z ++ later) r) j.text
    ∙ ap (λ (i : ℕ). in_range ((old ++ piece) ++ later) i r.end) j.start
    ∙ ap (in_range ((old ++ piece) ++ later) (length old)) (j.end ∙ ap length j.text)
    ∙ ranged old piece later (is_utf8-from_IsUtf8 old u) (sym (ap is_utf8 j.text) ∙ is_utf8-from_IsUtf8 new w)

-- ---- targets

pub resource_target : (at : ℕ → LinkTexts) (old middle new a b : List ℕ) (d t : Range) → IsUtf8 old → IsUtf8 middle → IsUtf8 new
    → IsJoined old middle d (written a) → IsJoined middle new t (written b)
    → IsTarget at old new (targets.Resource d t) (spelled (link_texts (written a) (Some (written b))) [])
resource_target at old middle new a b d t u v w j k =
    record {
      joined = written a ++ written b;
      text = k.text ∙ ap (λ (z : List ℕ). z ++ written b) j.text ∙ append_assoc old (written a) (written b);
      each =
          λ later.
          let first : range_text (new ++ later) d ≡ written a =
          ap (λ (z : List ℕ). range_text z d) (ap (λ (z : List ℕ). z ++ later) k.text ∙ append_assoc middle (written b) later)
          ∙ joined_text old middle (written a) (written b ++ later) d u v j in
          let second = joined_text middle new (written b) later t v w k in
          ap (λ (z : List ℕ). spelled (link_texts (content_codes z) (Some (content_codes (range_text (new ++ later) t)))) []) first
          ∙ ap (λ (z : List ℕ). spelled (link_texts (content_codes (written a)) (Some (content_codes z))) []) second
          ∙ ap (λ (z : List ℕ). spelled (link_texts z (Some (content_codes (written b)))) []) (written_codes a)
          ∙ ap (λ (z : List ℕ). spelled (link_texts (written a) (Some z)) []) (written_codes b);
    }

pub call_target : (at : ℕ → LinkTexts) (old new label : List ℕ) (r : Range) → IsUtf8 old → IsUtf8 new → IsJoined old new r label
    → IsTarget at old new (targets.Call r) (spelled nowhere (content_codes label))
call_target at old new label r u w j =
    record {
      joined = label;
      text = j.text;
      each = λ later. ap (λ (z : List ℕ). spelled nowhere (content_codes z)) (joined_text old new label later r u w j);
    }

pub defined_target : (at : ℕ → LinkTexts) (text : List ℕ) (place : ℕ) → IsTarget at text text (targets.Definition place) (spelled (at place) [])
defined_target at text place = record { joined = []; text = sym (append-nil text); each = λ later. refl }

pub nowhere_target : (at : ℕ → LinkTexts) (text : List ℕ) → IsTarget at text text targets.Nowhere (spelled nowhere [])
nowhere_target at text = record { joined = []; text = sym (append-nil text); each = λ later. refl }

-- ---- strings

module _ {A : Type 0} (old new : SpelledStrings A) where
  -- more text was joined
  pub raws_on : (more : List ℕ) (others raws : List (List ℕ)) → string_bytes new.text ≡ string_bytes old.text ++ more → new.raw_texts.items ≡ old.raw_texts.items
      → HaveRaws old others raws → HaveRaws new others raws
  raws_on more others raws h k e =
      record {
        each =
            λ later.
            ap (λ (z : List Range). map (range_text (string_bytes new.text ++ later)) z ++ others) k
            ∙ ap (λ (z : List ℕ). map (range_text z) old.raw_texts.items ++ others)
            (ap (λ (z : List ℕ). z ++ later) h ∙ append_assoc (string_bytes old.text) more later)
            ∙ e.each (more ++ later);
      }

  -- a raw text was joined
  pub raws_more : (piece : List ℕ) (r : Range) (others raws : List (List ℕ)) → IsUtf8 (string_bytes old.text) → IsUtf8 (string_bytes new.text)
      → IsJoined (string_bytes old.text) (string_bytes new.text) r piece → new.raw_texts.items ≡ old.raw_texts.items ++ r ∷ []
      → HaveRaws old (piece ∷ others) raws → HaveRaws new others raws
  raws_more piece r others raws u w j k e =
      record {
        each =
            λ later.
            let text = string_bytes new.text ++ later in
            let before = map (range_text text) old.raw_texts.items in
            let longer : text ≡ string_bytes old.text ++ (piece ++ later) =
            ap (λ (z : List ℕ). z ++ later) j.text ∙ append_assoc (string_bytes old.text) piece later in
            ap (λ (z : List Range). map (range_text text) z ++ others) k
            ∙ ap (λ (z : List (List ℕ)). z ++ others) (map-append (range_text text) old.raw_texts.items (r ∷ []))
            ∙ append_assoc before (range_text text r ∷ []) others
            ∙ ap (λ (z : List ℕ). before ++ (z ∷ others)) (joined_text (string_bytes old.text) (string_bytes new.text) piece later r u w j)
            ∙ ap (λ (z : List ℕ). map (range_text z) old.raw_texts.items ++ (piece ∷ others)) longer
            ∙ e.each (piece ++ later);
      }

  -- a target is before the others
  pub targets_more : (at : ℕ → LinkTexts) (target : SpelledTarget) (is : Spelled) (others : List Spelled)
      → IsTarget at (string_bytes old.text) (string_bytes new.text) target is → new.targets.items ≡ old.targets.items ++ target ∷ []
      → HaveTargets at old others → HaveTargets at new (is ∷ others)
  targets_more at target is others t k e =
      record {
        each =
            λ later.
            let text = string_bytes new.text ++ later in
            let longer : text ≡ string_bytes old.text ++ (t.joined ++ later) =
            ap (λ (z : List ℕ). z ++ later) t.text ∙ append_assoc (string_bytes old.text) t.joined later in
            ap (λ (z : List SpelledTarget). map (target_view at text) (reverse z)) k
            ∙ ap (map (target_view at text)) (reverse-append old.targets.items (target ∷ []))
            ∙ ap (λ (z : Spelled). z ∷ map (target_view at text) (reverse old.targets.items)) (t.each later)
            ∙ ap (λ (z : List ℕ). is ∷ map (target_view at z) (reverse old.targets.items)) longer
            ∙ ap (λ (z : List Spelled). is ∷ z) (e.each (t.joined ++ later));
      }

-- no target was read of no events
pub no_targets : {A : Type 0} (at : ℕ → LinkTexts) (strings : SpelledStrings A) → strings.targets.items ≡ [] → HaveTargets at strings []
no_targets at strings h =
    record { each = λ later. ap (λ (z : List SpelledTarget). map (target_view at (string_bytes strings.text ++ later)) (reverse z)) h }

-- ---- once all is read

module _ {A : Type 0} (strings : SpelledStrings A) where
  no_more : string_bytes strings.text ++ [] ≡ string_bytes strings.text
  no_more = append-nil (string_bytes strings.text)

  pub targets_view_is : (at : ℕ → LinkTexts) (targets : List Spelled) → HaveTargets at strings targets → targets_view at strings ≡ targets
  targets_view_is at targets e = ap (λ (z : List ℕ). map (target_view at z) (reverse strings.targets.items)) (sym no_more) ∙ e.each []

  pub raws_view_is : (raws : List (List ℕ)) → HaveRaws strings [] raws → raws_view strings ≡ raws
  raws_view_is raws e =
      sym (append-nil (raws_view strings))
      ∙ ap (λ (z : List ℕ). map (range_text z) strings.raw_texts.items ++ []) (sym no_more)
      ∙ e.each []

  pub no_raws : (raws : List (List ℕ)) → strings.raw_texts.items ≡ [] → HaveRaws strings raws raws
  no_raws raws h =
      record { each = λ later. ap (λ (z : List Range). map (range_text (string_bytes strings.text ++ later)) z ++ raws) h }
