-- Raw text that is one piece of the bytes is the text between the sequences.
use Rattle.std.proofs.Common.{◌≡◌, ℕ, ◌-◌, ◌==◌, Bool, true, false, ◌&&◌, not, if◌then◌else◌, List, [], ◌∷◌, ◌++◌, Option, None, Some}
use Rattle.std.proofs.Common.{refl, sym, ap, ◌∙◌, subst}
use Rattle.compile_strings.proofs.Prelude.{append-nil, bytes_between, chunk_between, chunk_first, columns_after, eqb-true, Event, exit_spot, Kind, Name}
use Rattle.compile_strings.proofs.Prelude.{raw_after, raw_next, raw_part_first, same_name, sequence_of, spaces, Spot, spot_of, valid, whole_by}
use Rattle.std.proofs.lemmas.Bool.{and_parts}
use Rattle.engine_events.specs.declared.event.Kind.TheVariants.{Enter, Exit}
use Rattle.engine_events.specs.declared.event.Name.TheVariants as n
use Rattle.compile_written.specs.Child.{text_to, to_next}
use Rattle.compile_strings.specs.RawTexts.{is_chunk, is_exit, begins, spot_next}
use Rattle.compile_strings.specs.RawTexts.{piece_by}

-- ---- tests

if_some : {X : Type 0} (b : Bool) (o : Option X) (x : X) → (if b then o else None) ≡ Some x → (b ≡ true) × (o ≡ Some x)
if_some true o x h = (refl, h)
if_some false o x h = absurd (cc)

if_zero : (b : Bool) (x : ℕ) → b ≡ true → (if b then 0 else x) ≡ 0
if_zero b x h = ap (λ (z : Bool). if z then 0 else x) h

same_some : {X : Type 0} (x y : X) → Some x ≡ Some y → x ≡ y
same_some x y h = cc

first_true : (a b : Bool) → (a && b) ≡ true → a ≡ true
first_true a b h = (and_parts a b h).0

second_true : (a b : Bool) → (a && b) ≡ true → b ≡ true
second_true a b h = (and_parts a b h).1

enter_is : (k : Kind) → not (is_exit k) ≡ true → k ≡ Enter
enter_is Enter h = refl
enter_is Exit h = absurd (cc)

exit_is : (k : Kind) → is_exit k ≡ true → k ≡ Exit
exit_is Enter h = absurd (cc)
exit_is Exit h = refl

-- ---- names

data IsChunk : Name → Type 0 where
  CodeData : IsChunk n.CodeTextData
  MathData : IsChunk n.MathTextData

data IsSequence : Name → Type 0 where
  CodeSequence : IsSequence n.CodeTextSequence
  MathSequence : IsSequence n.MathTextSequence

chunk_is : (name : Name) → is_chunk name ≡ true → IsChunk name
chunk_is n.CodeTextData h = CodeData
chunk_is n.MathTextData h = MathData
chunk_is name h = absurd (let g : false ≡ true = h in cc)

sequence_by : (a b : Bool) (sequence : Name) → (if a then Some n.CodeTextSequence else (if b then Some n.MathTextSequence else None)) ≡ Some sequence
    → IsSequence sequence
sequence_by true b sequence h = subst IsSequence (same_some n.CodeTextSequence sequence h) CodeSequence
sequence_by false true sequence h = subst IsSequence (same_some n.MathTextSequence sequence h) MathSequence
sequence_by false false sequence h = absurd (cc)

sequence_is : (name sequence : Name) → sequence_of name ≡ Some sequence → IsSequence sequence
sequence_is name sequence h = sequence_by (same_name name n.CodeText) (same_name name n.MathText) sequence h

apart : (name sequence : Name) → IsChunk name → IsSequence sequence → same_name name sequence ≡ false
apart name sequence CodeData CodeSequence = refl
apart name sequence CodeData MathSequence = refl
apart name sequence MathData CodeSequence = refl
apart name sequence MathData MathSequence = refl

-- ---- the events

module _ (bytes : List ℕ) where
  chunk_part : (name : Name) → IsChunk name → (es : List Event) → raw_part_first bytes name es ≡ chunk_first bytes es
  chunk_part name CodeData es = refl
  chunk_part name MathData es = refl

  no_spaces : (q : ℕ) → (q == 0) ≡ true → spaces (q - 1) ≡ []
  no_spaces q h = ap (λ (z : ℕ). spaces (z - 1)) (eqb-true q 0 h)

  uncut : (p q : Spot) (text : List ℕ) → (p.vs == 0) ≡ true → (q.vs == 0) ≡ true → chunk_between bytes p q text ≡ text
  uncut p q text a b =
      ap (λ (z : Bool). if not z && (p.index == q.index) then spaces (q.vs - p.vs)
      else spaces (columns_after bytes p) ++ text ++ spaces (q.vs - 1)) a
      ∙ ap (λ (z : List ℕ). spaces (columns_after bytes p) ++ text ++ z) (no_spaces q.vs b)
      ∙ append-nil (spaces (columns_after bytes p) ++ text)
      ∙ ap (λ (z : ℕ). spaces z ++ text) (if_zero (p.vs == 0) _ a)

  -- a chunk whose exit comes next
  chunk_is_text : (enter exit : Event) (es : List Event) → exit.kind ≡ Exit → ((spot_of enter).vs == 0) ≡ true → ((spot_of exit).vs == 0) ≡ true
      → chunk_first bytes (enter ∷ exit ∷ es) ≡ valid (bytes_between bytes (spot_of enter) (spot_of exit))
  chunk_is_text enter exit es x a b =
      ap (λ (k : Kind). chunk_between bytes (spot_of enter) (spot_next k 0 (spot_of exit) (λ d. exit_spot d es))
      (valid (to_next k 0 (bytes_between bytes (spot_of enter) (spot_of exit)) (λ d. text_to bytes (spot_of enter) d es)))) x
      ∙ uncut (spot_of enter) (spot_of exit) (valid (bytes_between bytes (spot_of enter) (spot_of exit))) a b

  module _ (sequence : Name) where
    abbrev raw : Bool → ℕ → List Event → List ℕ
    raw = raw_after bytes sequence

    enters : (begun : Bool) (d : ℕ) (e : Event) (es : List Event) (t : Bool) → e.kind ≡ Enter → same_name e.name sequence ≡ t
        → raw begun d (e ∷ es) ≡ raw_next Enter t begun d (raw_part_first bytes e.name (e ∷ es)) (λ b q. raw b q es)
    enters begun d e es t h s =
        ap (λ (k : Kind). raw_next k (same_name e.name sequence) begun d (raw_part_first bytes e.name (e ∷ es)) (λ b q. raw b q es)) h
        ∙ ap (λ (z : Bool). raw_next Enter z begun d (raw_part_first bytes e.name (e ∷ es)) (λ b q. raw b q es)) s

    exits : (begun : Bool) (d : ℕ) (e : Event) (es : List Event) → e.kind ≡ Exit
        → raw begun d (e ∷ es) ≡ (if d == 0 then [] else raw begun (d - 1) es)
    exits begun d e es h =
        ap (λ (k : Kind). raw_next k (same_name e.name sequence) begun d (raw_part_first bytes e.name (e ∷ es)) (λ b q. raw b q es)) h

    between_sequences : (before end enter exit after : Event) (es : List Event) → begins sequence before ≡ true → is_exit end.kind ≡ true
        → not (is_exit enter.kind) ≡ true → same_name enter.name sequence ≡ false → is_exit exit.kind ≡ true → begins sequence after ≡ true
        → raw false 0 (before ∷ end ∷ enter ∷ exit ∷ after ∷ es) ≡ raw_part_first bytes enter.name (enter ∷ exit ∷ after ∷ es)
    between_sequences before end enter exit after es b e i other x a =
        let part = raw_part_first bytes enter.name (enter ∷ exit ∷ after ∷ es) in
        enters false 0 before (end ∷ enter ∷ exit ∷ after ∷ es) true (enter_is before.kind (first_true _ _ b)) (second_true _ _ b)
        ∙ exits true 1 end (enter ∷ exit ∷ after ∷ es) (exit_is end.kind e)
        ∙ enters true 0 enter (exit ∷ after ∷ es) false (enter_is enter.kind i) other
        ∙ ap (λ (z : List ℕ). part ++ z)
        (exits true 1 exit (after ∷ es) (exit_is exit.kind x)
        ∙ enters true 0 after es true (enter_is after.kind (first_true _ _ a)) (second_true _ _ a))
        ∙ append-nil part

    -- Raw text that is one piece is what stands between the sequences.
    pub whole_law : (name : Name) (es : List Event) (piece : List ℕ) → sequence_of name ≡ Some sequence → whole_by bytes sequence es ≡ Some piece
        → valid piece ≡ raw_after bytes sequence false 0 es
    whole_law name [] piece s h = absurd (cc)
    whole_law name (before ∷ []) piece s h = absurd (cc)
    whole_law name (before ∷ end ∷ []) piece s h = absurd (cc)
    whole_law name (before ∷ end ∷ enter ∷ []) piece s h = absurd (cc)
    whole_law name (before ∷ end ∷ enter ∷ exit ∷ []) piece s h = absurd (cc)
    whole_law name (before ∷ end ∷ enter ∷ exit ∷ after ∷ es) piece s h =
        let parts = if_some (begins sequence before && is_exit end.kind && is_chunk enter.name && begins sequence after) (piece_by bytes enter exit) piece h in
        let inside = if_some (not (is_exit enter.kind) && is_exit exit.kind && ((spot_of enter).vs == 0) && ((spot_of exit).vs == 0))
        (Some (bytes_between bytes (spot_of enter) (spot_of exit))) piece parts.1 in
        let front = first_true (begins sequence before && is_exit end.kind && is_chunk enter.name) (begins sequence after) parts.0 in
        let chunk = chunk_is enter.name (second_true (begins sequence before && is_exit end.kind) (is_chunk enter.name) front) in
        let first = first_true (begins sequence before && is_exit end.kind) (is_chunk enter.name) front in
        let ends = first_true (not (is_exit enter.kind) && is_exit exit.kind && ((spot_of enter).vs == 0)) ((spot_of exit).vs == 0) inside.0 in
        let kinds = first_true (not (is_exit enter.kind) && is_exit exit.kind) ((spot_of enter).vs == 0) ends in
        let x = second_true (not (is_exit enter.kind)) (is_exit exit.kind) kinds in
        sym (between_sequences before end enter exit after es (first_true (begins sequence before) (is_exit end.kind) first)
        (second_true (begins sequence before) (is_exit end.kind) first) (first_true (not (is_exit enter.kind)) (is_exit exit.kind) kinds)
        (apart enter.name sequence chunk (sequence_is name sequence s)) x
        (second_true (begins sequence before && is_exit end.kind && is_chunk enter.name) (begins sequence after) parts.0)
        ∙ chunk_part enter.name chunk (enter ∷ exit ∷ after ∷ es)
        ∙ chunk_is_text enter exit (after ∷ es) (exit_is exit.kind x)
        (second_true (not (is_exit enter.kind) && is_exit exit.kind) ((spot_of enter).vs == 0) ends)
        (second_true (not (is_exit enter.kind) && is_exit exit.kind && ((spot_of enter).vs == 0)) ((spot_of exit).vs == 0) inside.0)
        ∙ ap valid (same_some (bytes_between bytes (spot_of enter) (spot_of exit)) piece inside.1))
