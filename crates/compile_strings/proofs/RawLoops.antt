-- Raw text, event by event.
use Rattle.std.proofs.Common.{◌≡◌, ◌<◌, ◌≤◌, ℕ, zero, suc, ◌+◌, ◌-◌, ◌==◌, Bool, true, false, not, if◌then◌else◌, List, [], ◌∷◌, ◌++◌, refl, sym, ap, ◌∙◌, get_or}
use Rattle.std.proofs.Common.{append_assoc, drop, length, None, Some}
use Rattle.compile_strings.proofs.Prelude.{append-nil, chunk_between, chunk_first, columns_after, drop_all, drop_next, eqb-true, Event, exit_spot, Name}
use Rattle.compile_strings.proofs.Prelude.{no_event, raw_after, raw_next, raw_part_first, replicate, same_name, spaces, Spot, spot_of, take_rest, valid}
use Rattle.std.proofs.Common.{◌&&◌, take, eq-eqb, arith}
use Rattle.compile_written.specs.Child.{text_first}
use Rattle.compile_strings.specs.RawTexts.{raw_walked}
use Rattle.compile_strings.specs.declared.raw_text.RawPlace.{RawPlace}

pub spaces_are : (count : ℕ) → replicate count 32 ≡ spaces count
spaces_are zero = refl
spaces_are (suc count) = ap (λ (z : List ℕ). 32 ∷ z) (spaces_are count)

-- ---- chunks

module _ (bytes : List ℕ) where
  abbrev pub is_cut : Spot → Spot → Bool
  is_cut p q = not (p.vs == 0) && (p.index == q.index)

  chunk_is : (events : List Event) (p q : Spot) → 1 ≤ length events → p ≡ spot_of (get_or events 0 no_event)
      → q ≡ exit_spot 0 (take (length events - 1) (drop 1 events)) → chunk_first bytes events ≡ chunk_between bytes p q (valid (text_first bytes events))
  chunk_is [] p q l h k = absurd (omega arith)
  chunk_is (e ∷ es) p q l h k =
      let text = valid (text_first bytes (e ∷ es)) in
      ap (λ (z : Spot). chunk_between bytes z (exit_spot 0 es) text) (sym h)
      ∙ ap (λ (z : Spot). chunk_between bytes p z text) (sym (k ∙ ap (exit_spot 0) (take_rest (e ∷ es) 1)))

  -- a chunk that begins and ends in one tab
  pub cut_chunk : (events : List Event) (p q : Spot) (n : ℕ) → 1 ≤ length events → p ≡ spot_of (get_or events 0 no_event)
      → q ≡ exit_spot 0 (take (length events - 1) (drop 1 events)) → n ≡ q.vs - p.vs → is_cut p q ≡ true → replicate n 32 ≡ chunk_first bytes events
  cut_chunk events p q n l h k m t =
      let text = valid (text_first bytes events) in
      spaces_are n
      ∙ ap spaces m
      ∙ sym (chunk_is events p q l h k
      ∙ ap (λ (z : Bool). if z then spaces (q.vs - p.vs) else spaces (columns_after bytes p) ++ text ++ spaces (q.vs - 1)) t)

  -- another one
  pub whole_chunk : (events : List Event) (p q : Spot) (n m : ℕ) (text old : List ℕ) → 1 ≤ length events → p ≡ spot_of (get_or events 0 no_event)
      → q ≡ exit_spot 0 (take (length events - 1) (drop 1 events)) → n ≡ columns_after bytes p → text ≡ text_first bytes events → m ≡ q.vs - 1
      → is_cut p q ≡ false → ((old ++ replicate n 32) ++ valid text) ++ replicate m 32 ≡ old ++ chunk_first bytes events
  whole_chunk events p q n m text old l h k a b c t =
      let before = replicate n 32 in
      let after = replicate m 32 in
      let all = valid (text_first bytes events) in
      ap (λ (z : List ℕ). z ++ after) (append_assoc old before (valid text))
      ∙ append_assoc old (before ++ valid text) after
      ∙ ap (λ (z : List ℕ). old ++ ((z ++ valid text) ++ after)) (spaces_are n ∙ ap spaces a)
      ∙ ap (λ (z : List ℕ). old ++ ((spaces (columns_after bytes p) ++ valid z) ++ after)) b
      ∙ ap (λ (z : List ℕ). old ++ ((spaces (columns_after bytes p) ++ all) ++ z)) (spaces_are m ∙ ap spaces c)
      ∙ ap (λ (z : List ℕ). old ++ z)
      (sym (chunk_is events p q l h k
      ∙ ap (λ (z : Bool). if z then spaces (q.vs - p.vs) else spaces (columns_after bytes p) ++ all ++ spaces (q.vs - 1)) t))

  zero_by : (d : ℕ) (t : Bool) → (d == 0) ≡ t → (d ≡ 0 → ⊥) → t ≡ false
  zero_by d true e h = absurd (h (eqb-true d 0 e))
  zero_by d false e h = refl

  pub cut : (p q : Spot) → (p.vs ≡ 0 → ⊥) → p.index ≡ q.index → is_cut p q ≡ true
  cut p q h k =
      ap (λ (t : Bool). not t && (p.index == q.index)) (zero_by p.vs (p.vs == 0) refl h) ∙ eq-eqb p.index q.index k

  pub uncut_start : (p q : Spot) → p.vs ≡ 0 → is_cut p q ≡ false
  uncut_start p q h = ap (λ (z : ℕ). not (z == 0) && (p.index == q.index)) h

  other_by : (i j : ℕ) (s t : Bool) → (i == j) ≡ t → (i ≡ j → ⊥) → (s && t) ≡ false
  other_by i j s true e h = absurd (h (eqb-true i j e))
  other_by i j true false e h = refl
  other_by i j false false e h = refl

  pub uncut_index : (p q : Spot) → (p.index ≡ q.index → ⊥) → is_cut p q ≡ false
  uncut_index p q h = other_by p.index q.index (not (p.vs == 0)) (p.index == q.index) refl h

-- ---- events

module _ (bytes : List ℕ) (sequence : Name) (events : List Event) where
  abbrev event_at : ℕ → Event
  event_at i = get_or events i no_event

  abbrev is_sequence : ℕ → Bool
  is_sequence i = same_name (event_at i).name sequence

  abbrev part_at : ℕ → List ℕ
  part_at i = raw_part_first bytes (event_at i).name (drop i events)

  abbrev raw : Bool → ℕ → ℕ → List ℕ
  raw begun d i = raw_after bytes sequence begun d (drop i events)

  raw_on : (i d : ℕ) (begun : Bool) → i < length events
      → raw begun d i ≡ raw_next (event_at i).kind (is_sequence i) begun d (part_at i) (λ (b : Bool) (e : ℕ). raw b e (i + 1))
  raw_on i d begun l =
      let next = drop_next events i l in
      ap (raw_after bytes sequence begun d) next
      ∙ ap (λ (z : List Event). raw_next (event_at i).kind (is_sequence i) begun d (raw_part_first bytes (event_at i).name z) (λ (b : Bool) (e : ℕ). raw b e (i + 1)))
      (sym next)

  -- one event more
  pub step_on : (i d : ℕ) (begun part : Bool) (next : RawPlace) (old new whole : List ℕ) → i < length events
      → raw_next (event_at i).kind (is_sequence i) begun d (part_at i) (λ (b : Bool) (e : ℕ). raw b e (i + 1)) ≡ raw_walked part (Some next) (part_at i) (λ (b : Bool) (e : ℕ). raw b e (i + 1))
      → new ≡ old ++ (if part then part_at i else [])
      → old ++ raw begun d i ≡ whole → new ++ raw next.begun next.depth (i + 1) ≡ whole
  step_on i d begun part next old new whole l h p w =
      let here : List ℕ = if part then part_at i else [] in
      ap (λ (x : List ℕ). x ++ raw next.begun next.depth (i + 1)) p
      ∙ append_assoc old here (raw next.begun next.depth (i + 1))
      ∙ ap (λ (x : List ℕ). old ++ x) (sym (raw_on i d begun l ∙ h))
      ∙ w

  -- the text ends
  pub end_on : (i d : ℕ) (begun part : Bool) (old whole : List ℕ) → i < length events
      → raw_next (event_at i).kind (is_sequence i) begun d (part_at i) (λ (b : Bool) (e : ℕ). raw b e (i + 1)) ≡ raw_walked part None (part_at i) (λ (b : Bool) (e : ℕ). raw b e (i + 1))
      → old ++ raw begun d i ≡ whole → old ≡ whole
  end_on i d begun part old whole l h w = sym (append-nil old) ∙ ap (λ (x : List ℕ). old ++ x) (sym (raw_on i d begun l ∙ h)) ∙ w

  -- no event is left
  pub no_more : (i d : ℕ) (begun : Bool) (old whole : List ℕ) → length events ≤ i → old ++ raw begun d i ≡ whole → old ≡ whole
  no_more i d begun old whole l w =
      sym (append-nil old) ∙ ap (λ (z : List Event). old ++ raw_after bytes sequence begun d z) (sym (drop_all i events l)) ∙ w
