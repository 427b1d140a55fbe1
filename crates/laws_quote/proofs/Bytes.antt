-- Squeezing bytes one after another.
use Rattle.std.proofs.Common.{◌≡◌, ℕ, List, [], ◌∷◌, ◌++◌, Bool, true, false, Option, None, Some, cond, eqb, refl, sym, ap, subst, ◌∙◌}
use Rattle.std.proofs.Common.{append_assoc}
use Rattle.std.specs.Option.{option_map}
use Rattle.markdown_options.specs.declared.line_ending.LineEnding.{LineEnding}
use Rattle.markdown_options.specs.declared.line_ending.LineEnding.TheVariants.{CarriageReturnLineFeed, CarriageReturn, LineFeed}
use Rattle.markdown_options.specs.LineEndings.{ending_bytes}
use Rattle.definition_text.specs.Lines.{ends_line}
use Rattle.definition_page.specs.Pieces.{ends_a_line, is_fresh}
use Rattle.definition_page.proofs.LastByte.{last_from, last_is}
use Rattle.laws_quote.specs.Squeeze.{SqueezeState, kept_and_run, run_before, run_after, with_byte, with_bytes, nothing_yet}

-- ---- an ending

-- it keeps what is kept
pub kept_at_ending : (s : SqueezeState) (ending : LineEnding) → (with_bytes s (ending_bytes ending)).kept ≡ s.kept
kept_at_ending s CarriageReturnLineFeed = refl
kept_at_ending s CarriageReturn = refl
kept_at_ending s LineFeed = refl

-- where runs are dropped it leaves all as it is
dropped-ending : (kept : List ℕ) (ending : LineEnding) → with_bytes (kept_and_run kept None) (ending_bytes ending) ≡ kept_and_run kept None
dropped-ending kept CarriageReturnLineFeed = refl
dropped-ending kept CarriageReturn = refl
dropped-ending kept LineFeed = refl

pub dropped_ending : (s : SqueezeState) (ending : LineEnding) → s.run ≡ None → with_bytes s (ending_bytes ending) ≡ s
dropped_ending s ending e =
    ap (λ run. with_bytes (kept_and_run s.kept run) (ending_bytes ending)) e
    ∙ dropped-ending s.kept ending
    ∙ sym (ap (λ run. kept_and_run s.kept run) e)

-- ---- a tag drops the run before it

pub same_at_tag : (bytes : List ℕ) (s t : SqueezeState) → s.kept ≡ t.kept → with_bytes s (60 ∷ bytes) ≡ with_bytes t (60 ∷ bytes)
same_at_tag bytes s t e = ap (λ kept. with_bytes (kept_and_run kept None) (60 ∷ bytes)) e

-- ---- more text before all

-- what is kept, after a text
abbrev pub after_text : List ℕ → SqueezeState → SqueezeState
after_text text s = kept_and_run (text ++ s.kept) s.run

byte_after_text : (text kept more : List ℕ) (longer other : Option (List ℕ)) (ends : Bool)
    → cond ends (kept_and_run (text ++ kept) longer) (kept_and_run ((text ++ kept) ++ more) other)
    ≡ after_text text (cond ends (kept_and_run kept longer) (kept_and_run (kept ++ more) other))
byte_after_text text kept more longer other true = refl
byte_after_text text kept more longer other false = ap (λ all. kept_and_run all other) (append_assoc text kept more)

pub bytes_after_text : (text : List ℕ) (bytes : List ℕ) (s : SqueezeState) → with_bytes (after_text text s) bytes ≡ after_text text (with_bytes s bytes)
bytes_after_text text [] s = refl
bytes_after_text text (b ∷ bs) s =
    ap (λ t. with_bytes t bs)
    (byte_after_text text s.kept (run_before b s.run ++ b ∷ []) (option_map (λ run. run ++ b ∷ []) s.run) (run_after b) (ends_line b))
    ∙ bytes_after_text text bs (with_byte s b)

-- ---- whether CR or LF stands at the end

-- what the run says of that: nothing where it is dropped
abbrev pub IsFreshBy : Option (List ℕ) → Bool → Type 0
IsFreshBy None fresh = Unit {0}
IsFreshBy (Some []) fresh = fresh ≡ false
IsFreshBy (Some (b ∷ bs)) fresh = fresh ≡ true

longer_fresh : (b : ℕ) (run : Option (List ℕ)) → IsFreshBy (option_map (λ run. run ++ b ∷ []) run) true
longer_fresh b None = tt
longer_fresh b (Some []) = refl
longer_fresh b (Some (c ∷ cs)) = refl

other_fresh : (drops : Bool) → IsFreshBy (cond drops None (Some [])) false
other_fresh true = tt
other_fresh false = refl

byte_fresh : (b : ℕ) (kept more : List ℕ) (run : Option (List ℕ)) (ends drops : Bool)
    → IsFreshBy (cond ends (kept_and_run kept (option_map (λ run. run ++ b ∷ []) run)) (kept_and_run more (cond drops None (Some [])))).run ends
byte_fresh b kept more run true drops = longer_fresh b run
byte_fresh b kept more run false drops = other_fresh drops

bytes_fresh : (bs : List ℕ) (s : SqueezeState) (last : Option ℕ) → IsFreshBy s.run (ends_a_line last)
    → IsFreshBy (with_bytes s bs).run (ends_a_line (last_from last bs))
bytes_fresh [] s last h = h
bytes_fresh (b ∷ bs) s last h =
    bytes_fresh bs (with_byte s b) (Some b)
    (byte_fresh b s.kept (s.kept ++ (run_before b s.run ++ b ∷ [])) s.run (ends_line b) (eqb b 62))

pub fresh_by : (bytes : List ℕ) → IsFreshBy (with_bytes nothing_yet bytes).run (is_fresh bytes)
fresh_by [] = tt
fresh_by (b ∷ bs) =
    subst (λ last. IsFreshBy (with_bytes nothing_yet (b ∷ bs)).run (ends_a_line last)) (sym (last_is b bs))
    (bytes_fresh (b ∷ bs) nothing_yet None tt)
