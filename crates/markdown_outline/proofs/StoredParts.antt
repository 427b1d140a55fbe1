-- Parts of a text that grows.
use Rattle.std.proofs.Common.{◌≡◌, ◌≤◌, ◌-◌, ℕ, zero, suc, List, [], ◌∷◌, ◌++◌, length, map, take, drop, refl, sym, ap, ap₂, ◌∙◌, subst, append_assoc, arith}
use Rattle.std.proofs.Common.{length-append}
use Rattle.std.proofs.lemmas.List.{append-nil, drop-append-le, length-drop, map-append, take-append-le}
use Rattle.std.proofs.lemmas.List.Concat.{flat_map-append}
use Rattle.std.proofs.lemmas.List.Elements.{All-append}
use Rattle.std.proofs.Math.Seq.{drop-append_seam, take-append_seam}
use Rattle.std.specs.List.{All}
use Rattle.std.specs.Str.{IsUtf8}
use Rattle.std.proofs.lemmas.Str.{IsCharBoundary-from_take, IsUtf8-append, IsUtf8-drop}
use Rattle.markdown_outline.specs.Listed.{AreStored, AreUtf8, HasHeadings, IsListed, IsWithin, Listed, joined, listed, part}
use Rattle.markdown_outline.specs.declared.heading.Heading.{Heading}
use Rattle.markdown_outline.specs.declared.heading.Range.{Range}

abbrev range : ℕ → ℕ → Range
range start end = record { start = start; end = end }

part_kept : (old more : List ℕ) (r : Range) → IsWithin (length old) r → part (old ++ more) r ≡ part old r
part_kept old more r h =
    let size : length (drop r.start old) ≡ length old - r.start = length-drop r.start old in
    ap (take (r.end - r.start)) (drop-append-le r.start old more (omega (arith, h.ordered, h.fits)))
    ∙ take-append-le (r.end - r.start) (drop r.start old) more (omega (arith, h.ordered, h.fits, size))

part_last : (old more : List ℕ) → part (old ++ more) (range (length old) (length (old ++ more))) ≡ more
part_last old more =
    let size : length (old ++ more) - length old ≡ length more = (let n = length-append old more in omega (arith, n)) in
    ap (take (length (old ++ more) - length old)) (drop-append_seam old more)
    ∙ ap (λ n. take n more) size
    ∙ ap (take (length more)) (sym (append-nil more))
    ∙ take-append_seam more []

within_more : (old more : List ℕ) (r : Range) → IsWithin (length old) r → IsWithin (length (old ++ more)) r
within_more old more r h = record { ordered = h.ordered; fits = (let n = length-append old more in omega (arith, h.fits, n)) }

within_last : (old more : List ℕ) → IsWithin (length (old ++ more)) (range (length old) (length (old ++ more)))
within_last old more = record { ordered = (let n = length-append old more in omega (arith, n)); fits = omega arith }

-- what stands after a text in a text
utf8_after : (old more : List ℕ) → IsUtf8 old → IsUtf8 (old ++ more) → IsUtf8 more
utf8_after old more o all =
    let front : take (length old) (old ++ more) ≡ old = take-append_seam old more in
    let fits : length old ≤ length (old ++ more) = (let n = length-append old more in omega (arith, n)) in
    subst IsUtf8 (drop-append_seam old more)
    (IsUtf8-drop (old ++ more) (length old) all (IsCharBoundary-from_take (old ++ more) (length old) all fits (subst IsUtf8 (sym front) o)))

-- a text, and a slug after it
stored_parts : (before text slug : List ℕ) → IsUtf8 before → IsUtf8 text → IsUtf8 ((before ++ text) ++ slug)
    → AreStored before ((before ++ text) ++ slug) text slug (range (length before) (length (before ++ text)))
    (range (length (before ++ text)) (length ((before ++ text) ++ slug)))
stored_parts before text slug b t all =
    let first = range (length before) (length (before ++ text)) in
    let within = within_last before text in
    record {
      bytes = append_assoc before text slug;
      text = part_kept (before ++ text) slug first within ∙ part_last before text;
      slug = part_last (before ++ text) slug;
      text_within = within_more (before ++ text) slug first within;
      slug_within = within_last (before ++ text) slug;
      text_utf8 = t;
      slug_utf8 = utf8_after (before ++ text) slug (IsUtf8-append before text b t) all;
    }

pub both_stored : (before middle after text slug : List ℕ) (start seam end : ℕ) → IsUtf8 before → IsUtf8 text → IsUtf8 after
    → middle ≡ before ++ text → after ≡ middle ++ slug
    → start ≡ length before → seam ≡ length middle → end ≡ length after → AreStored before after text slug (range start seam) (range seam end)
both_stored before middle after text slug start seam end b t u m a s n e =
    let is : after ≡ (before ++ text) ++ slug = a ∙ ap (λ (bs : List ℕ). bs ++ slug) m in
    let here : seam ≡ length (before ++ text) = n ∙ ap length m in
    let there : end ≡ length ((before ++ text) ++ slug) = e ∙ ap length is in
    let known = stored_parts before text slug b t (subst IsUtf8 is u) in
    let at_start = subst (λ (k : ℕ). AreStored before ((before ++ text) ++ slug) text slug (range k (length (before ++ text)))
    (range (length (before ++ text)) (length ((before ++ text) ++ slug)))) (sym s) known in
    let at_seam = subst (λ (k : ℕ). AreStored before ((before ++ text) ++ slug) text slug (range start k)
    (range k (length ((before ++ text) ++ slug)))) (sym here) at_start in
    let at_end = subst (λ (k : ℕ). AreStored before ((before ++ text) ++ slug) text slug (range start seam) (range seam k)) (sym there) at_seam in
    subst (λ (bs : List ℕ). AreStored before bs text slug (range start seam) (range seam end)) (sym is) at_end

-- ---- headings, and one more

all_one : {X : Type 0} (P : X → Type 0) (x : X) → P x → All P (x ∷ [])
all_one P x p zero d l = p
all_one P x p (suc k) d l = absurd (omega (arith, l))

listed_kept : (old more : List ℕ) (h : Heading) → IsWithin (length old) h.text → IsWithin (length old) h.slug → listed (old ++ more) h ≡ listed old h
listed_kept old more h t s =
    ap₂ (λ (text slug : List ℕ). record { rank = h.rank; event = h.event; start = h.start; end = h.end; text = text; slug = slug })
    (part_kept old more h.text t) (part_kept old more h.slug s)

all_kept : (old more : List ℕ) (hs : List Heading) → All (λ (h : Heading). IsWithin (length old) h.text) hs
    → All (λ (h : Heading). IsWithin (length old) h.slug) hs → map (listed (old ++ more)) hs ≡ map (listed old) hs
all_kept old more [] t s = refl
all_kept old more (h ∷ hs) t s =
    ap₂ (λ (x : Listed) (xs : List Listed). x ∷ xs) (listed_kept old more h (t zero h (omega arith)) (s zero h (omega arith)))
    (all_kept old more hs (λ k d l. t (suc k) d (omega (arith, l))) (λ k d l. s (suc k) d (omega (arith, l))))

pub headings_more : (old new : List ℕ) (hs : List Heading) (done : List Listed) (h : Heading) (wanted : Listed) → HasHeadings old hs done
    → IsListed old new h wanted → HasHeadings new (hs ++ h ∷ []) (done ++ wanted ∷ [])
headings_more old new hs done h wanted has is =
    let more = wanted.text ++ wanted.slug in
    let grown : new ≡ old ++ more = is.stored.bytes in
    let kept : map (listed new) hs ≡ done =
    ap (λ (bs : List ℕ). map (listed bs) hs) grown ∙ all_kept old more hs has.texts has.slugs ∙ has.each in
    let stays : (r : Range) → IsWithin (length old) r → IsWithin (length new) r =
    λ r w. subst (λ (bs : List ℕ). IsWithin (length bs) r) (sym grown) (within_more old more r w) in
    record {
      whole =
          grown
          ∙ ap (λ (bs : List ℕ). bs ++ more) has.whole
          ∙ ap (λ (bs : List ℕ). joined done ++ bs) (sym (append-nil more))
          ∙ sym (flat_map-append (λ (it : Listed). it.text ++ it.slug) done (wanted ∷ []));
      each = map-append (listed new) hs (h ∷ []) ∙ ap₂ (λ (xs : List Listed) (x : Listed). xs ++ x ∷ []) kept is.one;
      texts =
          All-append (λ (it : Heading). IsWithin (length new) it.text) hs (h ∷ []) (λ k d l. stays _ (has.texts k d l))
          (all_one (λ (it : Heading). IsWithin (length new) it.text) h is.stored.text_within);
      slugs =
          All-append (λ (it : Heading). IsWithin (length new) it.slug) hs (h ∷ []) (λ k d l. stays _ (has.slugs k d l))
          (all_one (λ (it : Heading). IsWithin (length new) it.slug) h is.stored.slug_within);
      utf8 = All-append AreUtf8 done (wanted ∷ []) has.utf8 (all_one AreUtf8 wanted (is.stored.text_utf8, is.stored.slug_utf8));
    }
