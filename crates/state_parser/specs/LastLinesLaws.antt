-- The lines that aren't blank rise, and the last lines of containers are the least.
use Rattle.std.proofs.Common.{◌≡◌, ◌∙◌, ◌⊎◌, inl, inr, ⊎_elim, ℕ, zero, suc, ◌<◌, ◌≤◌, ◌-◌, ◌&&◌, Bool, true, false, ltb, if◌then◌else◌, List}
use Rattle.std.proofs.Common.{[], ◌∷◌, ◌++◌, length, take, map, get_or, slice_get, Option, None, Some, unwrap_or, refl, sym, ap, subst, arith}
use Rattle.std.specs.Prelude.{slice_set}
use Rattle.std.specs.List.{fold, prefix_len}
use Rattle.std.specs.List.Sorted.{IsNonDecreasing}
use Rattle.std.proofs.lemmas.Bool.{cases_eq, ltb-true, ltb-false}
use Rattle.std.proofs.lemmas.List.{get_or-map, get_or-set_same, get_or-set_other, length-map, length-set}
use Rattle.std.proofs.lemmas.List.Sorted.{IsNonDecreasingBy-push}
use Rattle.std.proofs.lemmas.List.Sums.{prefix_len-le-length, prefix_len_passes, prefix_len_stops}
use Rattle.std.proofs.lemmas.Option.{get_or_from_slice_get, slice_get_within, unwrap_or-slice_get}
use Rattle.engine_events.specs.declared.event.Event.{Event}
use Rattle.engine_events.specs.declared.place.Point.{Point}
use Rattle.engine_events.specs.Events.{point_of}
use Rattle.state_reader.specs.declared.span.Span.{Span}
use Rattle.state_parser.specs.LastLines.{AreLastLines, AreLate, IsAfter, all_raised, content_lines, filled_lines, is_content, last_before, last_of, own_line}
use Rattle.state_parser.specs.LastLines.{raised, raised_by, raised_to, takes_last_line, with_event, with_line}

any_default : (xs : List ℕ) (i d e : ℕ) → i < length xs → get_or xs i d ≡ get_or xs i e
any_default [] i d e l = absurd (omega arith)
any_default (x ∷ xs) zero d e l = refl
any_default (x ∷ xs) (suc i) d e l = any_default xs i d e (omega arith)

-- ---- lines rise

by_test : (P : List ℕ → Type 0) (t : Bool) (xs ys : List ℕ) → P xs → P ys → P (if t then xs else ys)
by_test P true xs ys h k = h
by_test P false xs ys h k = k

line_rises : (lines : List ℕ) (line : ℕ) (t : Bool) → ltb (last_of lines) line ≡ t → IsNonDecreasing lines
    → IsNonDecreasing (if t then lines ++ line ∷ [] else lines)
line_rises lines line false e h = h
line_rises lines line true e h = IsNonDecreasingBy-push (λ x. x) lines line h (λ d l.
    let less = ltb-true (last_of lines) line e in
    let same = unwrap_or-slice_get lines (length lines - 1) 0 in
    let here = any_default lines (length lines - 1) 0 d (omega arith) in
    omega (arith, less, same, here))

with_line_rises : (lines : List ℕ) (line : ℕ) → IsNonDecreasing lines → IsNonDecreasing (with_line lines line)
with_line_rises lines line h = line_rises lines line (ltb (last_of lines) line) refl h

content_rises : (lines : List ℕ) (es : List Event) → IsNonDecreasing lines → IsNonDecreasing (fold with_event lines es)
content_rises lines [] h = h
content_rises lines (e ∷ es) h = content_rises (with_event lines e) es
    (by_test IsNonDecreasing (is_content e) (with_line lines (point_of e).line) lines (with_line_rises lines (point_of e).line h) h)

pub filled_lines_rise : (flow : List Event) (end : Point) → IsNonDecreasing (filled_lines flow end)
filled_lines_rise flow end =
    let rises : IsNonDecreasing (content_lines flow) = content_rises [] flow (λ i j d h l. absurd (omega arith)) in
    by_test IsNonDecreasing (takes_last_line flow end) (with_line (content_lines flow) end.line) (content_lines flow)
    (with_line_rises (content_lines flow) end.line rises) rises

-- ---- the own line of a container

last_of_more : (x y : ℕ) (ys : List ℕ) → last_of (x ∷ y ∷ ys) ≡ last_of (y ∷ ys)
last_of_more x y ys =
    let here : length (x ∷ y ∷ ys) - 1 ≡ suc (length ys) = omega arith in
    let there : length (y ∷ ys) - 1 ≡ length ys = omega arith in
    ap (λ (n : ℕ). unwrap_or (slice_get (x ∷ y ∷ ys) n) 0) here ∙ sym (ap (λ (n : ℕ). unwrap_or (slice_get (y ∷ ys) n) 0) there)

last_taken : (lines : List ℕ) (n : ℕ) → n < length lines → last_of (take (suc n) lines) ≡ get_or lines n 0
last_taken [] n l = absurd (omega arith)
last_taken (x ∷ xs) zero l = refl
last_taken (x ∷ []) (suc n) l = absurd (omega arith)
last_taken (x ∷ y ∷ ys) (suc n) l = last_of_more x y (take n ys) ∙ last_taken (y ∷ ys) n (omega arith)

module _ (lines : List ℕ) (rise : IsNonDecreasing lines) (before : ℕ) where
  -- with so many lines before one, none of those is after the last of them
  front_after : (n : ℕ) → n ≤ length lines → (n < length lines → before ≤ get_or lines n 0) → IsAfter lines before (last_of (take n lines))
  front_after n short stops l c m = by_place n short stops (cases_less c.0 n)
    where
      cases_less : (k n : ℕ) → (k < n) ⊎ (n ≤ k)
      cases_less k zero = inr (omega arith)
      cases_less zero (suc n) = inl (omega arith)
      cases_less (suc k) (suc n) = ⊎_elim (λ h. inl (omega arith)) (λ h. inr (omega arith)) (cases_less k n)

      by_place : (n : ℕ) → n ≤ length lines → (n < length lines → before ≤ get_or lines n 0) → (c.0 < n) ⊎ (n ≤ c.0) → l ≤ last_of (take n lines)
      by_place zero s t (inl h) = absurd (omega arith)
      by_place (suc n) s t (inl h) =
          let last = last_taken lines n (omega arith) in
          let order = rise c.0 n l (omega arith) (omega arith) in
          let same = any_default lines n 0 l (omega arith) in
          omega (arith, last, order, same, c.2)
      by_place n s t (inr h) =
          let stop = t (omega (arith, c.1)) in
          let order = rise n c.0 l h c.1 in
          let same = any_default lines n 0 l (omega (arith, c.1)) in
          absurd (omega (arith, stop, order, same, c.2, m))

  front_least : (n : ℕ) → n ≤ length lines → ((k : ℕ) → k < n → get_or lines k 0 < before) → (other : ℕ) → IsAfter lines before other
      → last_of (take n lines) ≤ other
  front_least zero short passes other h = omega arith
  front_least (suc n) short passes other h =
      let last = last_taken lines n (omega arith) in
      let same = any_default lines n (get_or lines n 0) 0 (omega arith) in
      let there = h (get_or lines n 0) (n, omega arith, same) (passes n (omega arith)) in
      omega (arith, last, there)

  abbrev count : ℕ
  count = prefix_len (λ l. ltb l before) lines

  before_after : IsAfter lines before (last_before lines before)
  before_after = front_after count (prefix_len-le-length (λ l. ltb l before) lines)
      (λ h. ltb-false (get_or lines count 0) before (prefix_len_stops (λ l. ltb l before) lines 0 h))

  before_least : (other : ℕ) → IsAfter lines before other → last_before lines before ≤ other
  before_least other h = front_least count (prefix_len-le-length (λ l. ltb l before) lines)
      (λ k l. ltb-true (get_or lines k 0) before (prefix_len_passes (λ l. ltb l before) lines k 0 l)) other h

-- the later of two lines
pick : (a b : ℕ) (t : Bool) → ltb a b ≡ t → (let c = if t then b else a in (a ≤ c) × (b ≤ c) × ((d : ℕ) → a ≤ d → b ≤ d → c ≤ d))
pick a b true e = let h = ltb-true a b e in (omega arith, omega arith, λ d k l. l)
pick a b false e = let h = ltb-false a b e in (omega arith, h, λ d k l. k)

module _ (lines : List ℕ) (rise : IsNonDecreasing lines) (s : Span) where
  parts : let c = own_line lines s in let a = last_before lines s.close in (a ≤ c) × (s.marker ≤ c) × ((d : ℕ) → a ≤ d → s.marker ≤ d → c ≤ d)
  parts = pick (last_before lines s.close) s.marker (ltb (last_before lines s.close) s.marker) refl

  own_after : IsAfter lines s.close (own_line lines s)
  own_after l c m = let h = before_after lines rise s.close l c m in let k = parts.0 in omega arith

  own_least : (other : ℕ) → s.marker ≤ other → IsAfter lines s.close other → own_line lines s ≤ other
  own_least other h k = parts.2 other (before_least lines rise s.close other k) h

-- ---- last lines

module _ (lines : List ℕ) (spans : List Span) where
  -- those from an index on were raised
  record AreRaised (from : ℕ) (last : List ℕ) : Type 0 where
    count : length last ≡ length spans
    marker : (i : ℕ) (s : Span) → slice_get spans i ≡ Some s → s.marker ≤ get_or last i 0
    content : (i : ℕ) (s : Span) → slice_get spans i ≡ Some s → IsAfter lines s.close (get_or last i 0)
    inner : (i j : ℕ) (s : Span) → slice_get spans i ≡ Some s → s.parent ≡ Some j → j < i → from ≤ i → get_or last i 0 ≤ get_or last j 0
    least : (line_at : ℕ → ℕ) → AreLate lines spans line_at → (i : ℕ) (s : Span) → slice_get spans i ≡ Some s → get_or last i 0 ≤ line_at i

  own_at : (i : ℕ) (s : Span) → slice_get spans i ≡ Some s → get_or (map (own_line lines) spans) i 0 ≡ own_line lines s
  own_at i s e = get_or-map (own_line lines) spans i s 0 (slice_get_within spans i s e) ∙ ap (own_line lines) (get_or_from_slice_get spans i s s e)

  none_raised : IsNonDecreasing lines → AreRaised (length spans) (map (own_line lines) spans)
  none_raised rise = record {
    count = length-map spans (own_line lines);
    marker = λ i s e. (let h = (parts lines rise s).1 in let k = own_at i s e in omega arith);
    content = λ i s e l c m. (let h = own_after lines rise s l c m in let k = own_at i s e in omega arith);
    inner = λ i j s e p l k. absurd (let m = slice_get_within spans i s e in omega arith);
    least = λ line_at late i s e. (let h = own_least lines rise s (line_at i) (late.marker i s e) (late.content i s e) in let k = own_at i s e in omega arith);
  }

  module _ (k : ℕ) (last : List ℕ) (h : AreRaised (suc k) last) where
    -- so was one more, if it ends no later than that around it
    more : ((s : Span) (j : ℕ) → slice_get spans k ≡ Some s → s.parent ≡ Some j → j < k → get_or last k 0 ≤ get_or last j 0) → AreRaised k last
    more here = record {
      count = h.count;
      marker = h.marker;
      content = h.content;
      inner = λ i j s e p l m. by_place i j s e p l m (cases_eq k i);
      least = h.least;
    }
      where
        by_place : (i j : ℕ) (s : Span) → slice_get spans i ≡ Some s → s.parent ≡ Some j → j < i → k ≤ i → (k ≡ i) ⊎ (k ≡ i → ⊥)
            → get_or last i 0 ≤ get_or last j 0
        by_place i j s e p l m (inl same) = subst (λ (z : ℕ). slice_get spans z ≡ Some s → j < z → get_or last z 0 ≤ get_or last j 0) same
            (λ f n. here s j f p n) e l
        by_place i j s e p l m (inr other) = h.inner i j s e p l (omega (arith, other))

  module _ (k j : ℕ) (last : List ℕ) (s : Span) (at : slice_get spans k ≡ Some s) (parent : s.parent ≡ Some j) (out : j < k)
      (short : k < length last) (h : AreRaised (suc k) last) where
    abbrev new : List ℕ
    new = slice_set last j (get_or last k 0)

    new_at : get_or new j 0 ≡ get_or last k 0
    new_at = get_or-set_same last j (get_or last k 0) 0 (omega arith)

    new_else : (i : ℕ) → (i ≡ j → ⊥) → get_or new i 0 ≡ get_or last i 0
    new_else i n = get_or-set_other last j i (get_or last k 0) 0 n

    module _ (less : get_or last j 0 < get_or last k 0) where
      grown : (i : ℕ) → get_or last i 0 ≤ get_or new i 0
      grown i = by_place (cases_eq i j)
        where
          by_place : (i ≡ j) ⊎ (i ≡ j → ⊥) → get_or last i 0 ≤ get_or new i 0
          by_place (inl e) = let a = ap (λ (z : ℕ). get_or new z 0) e ∙ new_at in let b = ap (λ (z : ℕ). get_or last z 0) e in omega arith
          by_place (inr n) = let a = new_else i n in omega arith

      least : (line_at : ℕ → ℕ) → AreLate lines spans line_at → (i : ℕ) (t : Span) → slice_get spans i ≡ Some t → get_or new i 0 ≤ line_at i
      least line_at late i t e = by_place (cases_eq i j)
        where
          by_place : (i ≡ j) ⊎ (i ≡ j → ⊥) → get_or new i 0 ≤ line_at i
          by_place (inl f) =
              let a = ap (λ (z : ℕ). get_or new z 0) f ∙ new_at in
              let b = ap line_at f in
              let c = h.least line_at late k s at in
              let d = late.inner k j s at parent out in
              omega arith
          by_place (inr n) = let a = new_else i n in let b = h.least line_at late i t e in omega arith

      set_raised : AreRaised (suc k) new
      set_raised = record {
        count = length-set last j (get_or last k 0) ∙ h.count;
        marker = λ i t e. (let a = h.marker i t e in let b = grown i in omega arith);
        content = λ i t e l c m. (let a = h.content i t e l c m in let b = grown i in omega arith);
        inner = λ i o t e p l m.
            (let a = new_else i (λ (f : i ≡ j). omega arith) in let b = h.inner i o t e p l m in let c = grown o in omega arith);
        least = least;
      }

    step : (t : Bool) → ltb (get_or last j 0) (get_or last k 0) ≡ t → AreRaised k (if t then new else last)
    step true e = more k new (set_raised (ltb-true (get_or last j 0) (get_or last k 0) e)) (λ t o f p l.
        let same : o ≡ j = cc in
        let a = ap (λ (z : ℕ). get_or new z 0) same ∙ new_at in
        let b = new_else k (λ (g : k ≡ j). omega arith) in
        omega arith)
    step false e = more k last h (λ t o f p l.
        let same : o ≡ j = cc in
        let a = ap (λ (z : ℕ). get_or last z 0) same in
        let b = ltb-false (get_or last j 0) (get_or last k 0) e in
        omega arith)

  one_raised : (k : ℕ) (last : List ℕ) → AreRaised (suc k) last → AreRaised k (raised spans last k)
  one_raised k last h = by_span (slice_get spans k) refl
    where
      by_order : (s : Span) → slice_get spans k ≡ Some s → (j : ℕ) → s.parent ≡ Some j → (a b : Bool) → ltb j k ≡ a → ltb k (length last) ≡ b
          → AreRaised k (if (a && b) && ltb (get_or last j 0) (get_or last k 0) then slice_set last j (get_or last k 0) else last)
      by_order s e j p true true f g = step k j last s e p (ltb-true j k f) (ltb-true k (length last) g) h (ltb (get_or last j 0) (get_or last k 0)) refl
      by_order s e j p true false f g =
          absurd (let m = slice_get_within spans k s e in let n = ltb-false k (length last) g in let o = h.count in omega arith)
      by_order s e j p false b f g = more k last h (λ t o q r l. absurd (let same : o ≡ j = cc in let n = ltb-false j k f in omega arith))

      by_parent : (s : Span) → slice_get spans k ≡ Some s → (o : Option ℕ) → s.parent ≡ o → AreRaised k (raised_to o last k)
      by_parent s e None p = more k last h (λ t j q r l. absurd (let f : None ≡ Some j = cc in cc))
      by_parent s e (Some j) p = by_order s e j p (ltb j k) (ltb k (length last)) refl refl

      by_span : (o : Option Span) → slice_get spans k ≡ o → AreRaised k (raised_by o last k)
      by_span None e = more k last h (λ t j q r l. absurd (let f : None ≡ Some t = cc in cc))
      by_span (Some s) e = by_parent s e s.parent refl

  raised_down : (n : ℕ) (last : List ℕ) → AreRaised n last → AreRaised 0 (all_raised spans last n)
  raised_down zero last h = h
  raised_down (suc n) last h = raised_down n (raised spans last n) (one_raised n last h)

  last_lines_least : IsNonDecreasing lines → AreLastLines lines spans (all_raised spans (map (own_line lines) spans) (length spans))
  last_lines_least rise = let h = raised_down (length spans) (map (own_line lines) spans) (none_raised rise) in record {
    count = h.count;
    late = record { marker = h.marker; content = h.content; inner = λ i j s e p l. h.inner i j s e p l (omega arith) };
    least = h.least;
  }

  pub last_lines_are : (last : List ℕ) → IsNonDecreasing lines
      → last ≡ all_raised spans (map (own_line lines) spans) (length spans) → AreLastLines lines spans last
  last_lines_are last rise same = subst (AreLastLines lines spans) (sym same) (last_lines_least rise)
