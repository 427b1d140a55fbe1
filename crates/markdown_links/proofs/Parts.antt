-- Parts of a text that grows.
use Rattle.std.proofs.Common.{◌≡◌, ◌<◌, ◌+◌, ◌-◌, ℕ, get_or, zero, suc, List, [], ◌∷◌, ◌++◌, length, map, take, drop, refl, sym, ap, ap₂, ◌∙◌, subst, arith}
use Rattle.std.proofs.Common.{length-append}
use Rattle.std.proofs.lemmas.List.{append-nil, drop-append-le, length-drop, map-append, map_more, take-append-le}
use Rattle.std.proofs.lemmas.List.Concat.{flat_map-append}
use Rattle.std.proofs.lemmas.List.Elements.{All-append}
use Rattle.std.specs.List.{All}
use Rattle.std.proofs.Math.Seq.{drop-append_seam, take-append_seam}
use Rattle.definition_inline.specs.CharacterReference.{Names}
use Rattle.engine_events.specs.declared.event.Event.{Event}
use Rattle.markdown_links.specs.Listed.{HasParts, IsWithin, joined, part, targets_of}
use Rattle.markdown_links.specs.Target.{target_at}
use Rattle.markdown_links.specs.declared.span.Span.{Span}
use Rattle.markdown_links.specs.declared.link.Range.{Range}

pub all_one : {X : Type 0} (P : X → Type 0) (x : X) → P x → All P (x ∷ [])
all_one P x p zero d l = p
all_one P x p (suc k) d l = absurd (omega (arith, l))

part_kept : (old more : List ℕ) (r : Range) → IsWithin (length old) r → part (old ++ more) r ≡ part old r
part_kept old more r h =
    let size : length (drop r.start old) ≡ length old - r.start = length-drop r.start old in
    ap (take (r.end - r.start)) (drop-append-le r.start old more (omega (arith, h.ordered, h.fits)))
    ∙ take-append-le (r.end - r.start) (drop r.start old) more (omega (arith, h.ordered, h.fits, size))

parts_kept : (old more : List ℕ) (ranges : List Range) → All (IsWithin (length old)) ranges → map (part (old ++ more)) ranges ≡ map (part old) ranges
parts_kept old more [] within = refl
parts_kept old more (r ∷ rs) within =
    ap₂ (λ (x : List ℕ) (xs : List (List ℕ)). x ∷ xs) (part_kept old more r (within zero r (omega arith)))
    (parts_kept old more rs (λ k d l. within (suc k) d (omega (arith, l))))

part_last : (old more : List ℕ) → part (old ++ more) (record { start = length old; end = length (old ++ more) }) ≡ more
part_last old more =
    let size : length (old ++ more) - length old ≡ length more = (let n = length-append old more in omega (arith, n)) in
    ap (take (length (old ++ more) - length old)) (drop-append_seam old more)
    ∙ ap (λ n. take n more) size
    ∙ ap (take (length more)) (sym (append-nil more))
    ∙ take-append_seam more []

-- one part more, at the end
parts_more : (old more new : List ℕ) (start end : ℕ) (ranges : List Range) (parts : List (List ℕ)) → HasParts old ranges parts → new ≡ old ++ more
    → start ≡ length old → end ≡ length new → HasParts new (ranges ++ record { start = start; end = end } ∷ []) (parts ++ more ∷ [])
parts_more old more new start end ranges parts h is first last =
    let r : Range = record { start = start; end = end } in
    let size : length new ≡ length (old ++ more) = ap length is in
    let sum = length-append old more in
    let range : r ≡ record { start = length old; end = length (old ++ more) } =
    ap₂ (λ (a b : ℕ). record { start = a; end = b }) first (last ∙ size) in
    let one : part new r ≡ more = ap₂ part is range ∙ part_last old more in
    let kept : map (part new) ranges ≡ parts = ap (λ (bytes : List ℕ). map (part bytes) ranges) is ∙ parts_kept old more ranges h.within ∙ h.each in
    record {
      whole =
          is
          ∙ ap (λ (bytes : List ℕ). bytes ++ more) h.whole
          ∙ sym (flat_map-append (λ (part : List ℕ). part) parts (more ∷ []) ∙ ap (λ (bytes : List ℕ). joined parts ++ bytes) (append-nil more));
      each = map-append (part new) ranges (r ∷ []) ∙ ap₂ (λ (xs : List (List ℕ)) (x : List ℕ). xs ++ x ∷ []) kept one;
      within =
          All-append (IsWithin (length new)) ranges (r ∷ [])
          (λ k d l. let w = h.within k d l in record { ordered = w.ordered; fits = omega (arith, w.fits, size, sum) })
          (all_one (IsWithin (length new)) r (record { ordered = omega (arith, first, last, size, sum); fits = omega (arith, last) }));
    }

-- what the target of one link more spells
pub targets_more : (names : Names) (bytes : List ℕ) (events : List Event) (spans : List Span) (i : ℕ) (d : Span) (old new : List ℕ) (start end : ℕ)
    (ranges all : List Range) → i < length spans → HasParts old ranges (targets_of names bytes events (take i spans))
    → new ≡ old ++ target_at names bytes events (get_or spans i d).target → start ≡ length old → end ≡ length new
    → all ≡ ranges ++ record { start = start; end = end } ∷ [] → HasParts new all (targets_of names bytes events (take (i + 1) spans))
targets_more names bytes events spans i d old new start end ranges all before h is first last items =
    let target = λ (s : Span). target_at names bytes events s.target in
    let more = parts_more old (target (get_or spans i d)) new start end ranges (map target (take i spans)) h is first last in
    let some = subst (λ (it : List Range). HasParts new it (map target (take i spans) ++ target (get_or spans i d) ∷ [])) (sym items) more in
    subst (HasParts new all) (sym (map_more target spans i d before)) some
