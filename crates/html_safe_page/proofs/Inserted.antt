-- A page stays safe where another safe one is put in before one of its tags.
use Rattle.std.proofs.Common.{◌≡◌, ℕ, zero, suc, ◌≤◌, ◌<◌, List, [], ◌∷◌, ◌++◌, Bool, true, false, ◌||◌, cond, eqb, Option, None, Some, codes, length, refl}
use Rattle.std.proofs.Common.{sym, ap, ◌∙◌, subst, inl, inr, append_assoc, arith}
use Rattle.std.specs.Option.{IfSome, is_some, option_map}
use Rattle.std.proofs.lemmas.Bool.{cases_Bool, cond_both, cond-true, cond-false, false≢true, and_parts, and_from, or_left, or_right, eqb-true}
use Rattle.html_safe_page.specs.SafePage.{Kind, And, Quote, Less, Greater, Plain, kind, spell_letter, spell_tag, Items, End, Letter, Void, Element, void_end}
use Rattle.html_safe_page.specs.SafePage.{spell_before, spell, join, is_safe_by, IsSafePageBy}
use Rattle.html_safe_page.specs.Reader.{strip, QuotedText, longer, Rest, Reading, Nowhere, Outside, Inside, read}
use Rattle.html_safe_page.specs.Machine.{begins_reference, stands, may_stand, split_tag, follows}
use Rattle.html_safe_page.proofs.Options.{map_if}
use Rattle.html_safe_page.proofs.Text.{is_plain, split}
use Rattle.html_safe_page.proofs.Pages.{items_read}
use Rattle.html_safe_page.proofs.Sound.{tag_append}
use Rattle.html_safe_page.proofs.Steps.{all_plain, not_here, are_ends, closes, ends_first, letter_more, no_tag, bad_tag, good_tag, decided}
use Rattle.html_safe_page.proofs.Passed.{not_true, stops}
use Rattle.html_safe_page.proofs.Follow.{shorter}
use Rattle.html_safe_page.specs.declared.table.TagTable.{TagTable}

-- ---- a safe page before what closes tags

pub spelled_append : (items : Items) (x y : List ℕ) → spell_before items (x ++ y) ≡ spell_before items x ++ y
spelled_append End x y = refl
spelled_append (Letter b items) x y = ap (λ z. spell_letter b ++ z) (spelled_append items x y) ∙ sym (append_assoc (spell_letter b) (spell_before items x) y)
spelled_append (Void tag items) x y =
    ap (λ z. 60 ∷ spell_tag tag (void_end ++ (62 ∷ z))) (spelled_append items x y)
    ∙ ap (λ z. 60 ∷ z) (tag_append tag (void_end ++ (62 ∷ spell_before items x)) y)
spelled_append (Element tag inside items) x y =
    let rest = 60 ∷ 47 ∷ (tag.name ++ (62 ∷ spell_before items x)) in
    ap (λ z. 60 ∷ spell_tag tag (62 ∷ spell_before inside (60 ∷ 47 ∷ (tag.name ++ (62 ∷ z))))) (spelled_append items x y)
    ∙ ap (λ z. 60 ∷ spell_tag tag (62 ∷ spell_before inside (60 ∷ 47 ∷ z))) (sym (append_assoc tag.name (62 ∷ spell_before items x) y))
    ∙ ap (λ z. 60 ∷ spell_tag tag (62 ∷ z)) (spelled_append inside rest y)
    ∙ ap (λ z. 60 ∷ z) (tag_append tag (62 ∷ spell_before inside rest) y)

abbrev IsOutside : List (List ℕ) → Reading → Type 0
IsOutside ns s = (r : Rest) × (s ≡ Outside r) × (are_ends r ns ≡ true)

outside_of : (s : Reading) (ns : List (List ℕ)) → closes s ns ≡ true → IsOutside ns s
outside_of Nowhere ns h = absurd (false≢true h)
outside_of (Outside r) ns h = (r, refl, h)
outside_of (Inside bytes r) ns h = absurd (false≢true h)

-- ---- letters before what is none stand before anything

strip_kept : (name bytes end others : List ℕ) → all_plain name ≡ true → stops end ≡ true → is_some (strip name (bytes ++ end)) ≡ true
    → is_some (strip name (bytes ++ others)) ≡ true
strip_kept [] bytes end others h s k = refl
strip_kept (p ∷ ps) [] [] others h s k = absurd (false≢true k)
strip_kept (p ∷ ps) [] (b ∷ bs) others h s k =
    absurd (false≢true (sym (not_here b p (strip ps bs) (not_true (is_plain (kind b)) s) (and_parts (is_plain (kind p)) (all_plain ps) h).0) ∙ k))
strip_kept (p ∷ ps) (b ∷ bs) end others h s k =
    let old = strip ps (bs ++ end) in
    elim (cases_Bool (eqb b p)) [
      | inl e ↦
          ap is_some (cond-true (eqb b p) (strip ps (bs ++ others)) None e)
          ∙ strip_kept ps bs end others (and_parts (is_plain (kind p)) (all_plain ps) h).1 s (ap is_some (sym (cond-true (eqb b p) old None e)) ∙ k)
      | inr e ↦ absurd (false≢true (ap is_some (sym (cond-false (eqb b p) old None e)) ∙ k))
    ]

either_kept : (a b x y : Bool) → (a ≡ true → x ≡ true) → (b ≡ true → y ≡ true) → (a || b) ≡ true → (x || y) ≡ true
either_kept true b x y p q h = or_left x y (p refl)
either_kept false b x y p q h = or_right x y (q h)

reference_kept : (bytes end others : List ℕ) → stops end ≡ true → begins_reference (bytes ++ end) ≡ true → begins_reference (bytes ++ others) ≡ true
reference_kept bytes end others s h =
    let one = λ (name : List ℕ) (plain : all_plain name ≡ true). strip_kept name bytes end others plain s in
    either_kept _ _ _ _
    (either_kept _ _ _ _ (either_kept _ _ _ _ (one (codes "amp;") refl) (one (codes "quot;") refl)) (one (codes "lt;") refl))
    (one (codes "gt;") refl) h

pub stands_kept : (k : Kind) (bytes end others : List ℕ) → stops end ≡ true → stands k (bytes ++ end) ≡ true → stands k (bytes ++ others) ≡ true
stands_kept And bytes end others s h = reference_kept bytes end others s h
stands_kept Quote bytes end others s h = h
stands_kept Less bytes end others s h = h
stands_kept Greater bytes end others s h = h
stands_kept Plain bytes end others s h = refl

-- ---- tags before a tag end before it

-- more bytes after what follows a tag
abbrev pub with_more : List ℕ → QuotedText → QuotedText
with_more more q = split q.inside (q.rest ++ more)

split_step : (b : ℕ) (bs more : List ℕ) (ends begins : Bool) (o : Option QuotedText)
    → cond ends (Some (split [] (bs ++ more))) (cond begins None (option_map (longer b) (option_map (with_more more) o)))
    ≡ option_map (with_more more) (cond ends (Some (split [] bs)) (cond begins None (option_map (longer b) o)))
split_step b bs more true begins o = refl
split_step b bs more false true o = refl
split_step b bs more false false None = refl
split_step b bs more false false (Some q) = refl

pub split_before : (bytes after : List ℕ) → split_tag (bytes ++ 60 ∷ after) ≡ option_map (with_more (60 ∷ after)) (split_tag bytes)
split_before [] after = refl
split_before (b ∷ bs) after =
    ap (λ o. cond (eqb b 62) (Some (split [] (bs ++ 60 ∷ after))) (cond (eqb b 60) None (option_map (longer b) o))) (split_before bs after)
    ∙ split_step b bs (60 ∷ after) (eqb b 62) (eqb b 60) (split_tag bs)

split_more : (bytes more : List ℕ) → IfSome (split_tag bytes) (λ q. split_tag (bytes ++ more) ≡ Some (with_more more q))
split_more [] more = tt
split_more (b ∷ bs) more =
    let P = λ (q : QuotedText). split_tag ((b ∷ bs) ++ more) ≡ Some (with_more more q) in
    let later = option_map (longer b) (split_tag bs) in
    let later_more = option_map (longer b) (split_tag (bs ++ more)) in
    cond_both (eqb b 62) (Some (split [] bs)) (cond (eqb b 60) None later) (λ o. IfSome o P)
    (λ e. cond-true (eqb b 62) (Some (split [] (bs ++ more))) (cond (eqb b 60) None later_more) e)
    (λ e. cond_both (eqb b 60) None later (λ o. IfSome o P) (λ _. tt)
    (λ k. map_if (split_tag bs) (longer b) (λ q. split_tag (bs ++ more) ≡ Some (with_more more q)) P (split_more bs more)
    (λ q h.
    cond-false (eqb b 62) (Some (split [] (bs ++ more))) (cond (eqb b 60) None later_more) e
    ∙ cond-false (eqb b 60) None later_more k ∙ ap (option_map (longer b)) h)))

pub split_found : (bytes more : List ℕ) (q : QuotedText) → split_tag bytes ≡ Some q → split_tag (bytes ++ more) ≡ Some (with_more more q)
split_found bytes more q e = subst (λ o. IfSome o (λ q. split_tag (bytes ++ more) ≡ Some (with_more more q))) e (split_more bytes more)

module _ (table : TagTable) where
  -- ---- a safe page before what closes tags

  -- it closes the same tags
  page_ahead : (items : Items) (after : List ℕ) (ns : List (List ℕ)) → is_safe_by table items ≡ true → closes (read table after) ns ≡ true
      → closes (read table (spell items ++ after)) ns ≡ true
  page_ahead items after ns safe h =
      let found = outside_of (read table after) ns h in
      ap (λ bytes. closes (read table bytes) ns) (sym (spelled_append items [] after))
      ∙ ap (λ s. closes s ns) (items_read table items after found.0 safe found.1)
      ∙ ends_first (join items) found.0 ns
      ∙ found.2

  -- ---- parting a page before a tag

  -- what closes the tags that are open before a tag may stand there in its place
  abbrev IsParted : List ℕ → List ℕ → List (List ℕ) → Type 0
  IsParted before after ns =
      (open_tags : List (List ℕ))
      × (closes (read table (60 ∷ after)) open_tags ≡ true)
      × ((others : List ℕ) → closes (read table others) open_tags ≡ true → closes (read table (before ++ others)) ns ≡ true)

  module _ (bs after : List ℕ) (ns : List (List ℕ))
      (more : (before : List ℕ) (ms : List (List ℕ)) → length before < length bs → closes (read table (before ++ 60 ∷ after)) ms ≡ true
      → IsParted before after ms)
      (h : closes (read table (60 ∷ (bs ++ 60 ∷ after))) ns ≡ true) where
    parted_followed : (q : QuotedText) → split_tag bs ≡ Some q → (o : Option (List (List ℕ))) → follows table q.inside ns ≡ o → IsParted (60 ∷ bs) after ns
    parted_followed q e None k =
        absurd (false≢true (sym (bad_tag table (bs ++ 60 ∷ after) ns (with_more (60 ∷ after) q) (split_found bs (60 ∷ after) q e) k) ∙ h))
    parted_followed q e (Some ms) k =
        let goes_on = good_tag table (bs ++ 60 ∷ after) ns ms (with_more (60 ∷ after) q) (split_found bs (60 ∷ after) q e) k in
        let rest = more q.rest ms (shorter bs q (sym e)) (sym goes_on ∙ h) in
        (rest.0, rest.1, λ others c. good_tag table (bs ++ others) ns ms (with_more others q) (split_found bs others q e) k ∙ rest.2 others c)

    parted_tag : (o : Option QuotedText) → split_tag bs ≡ o → IsParted (60 ∷ bs) after ns
    parted_tag None e = absurd (false≢true (sym (no_tag table (bs ++ 60 ∷ after) ns (split_before bs after ∙ ap (option_map (with_more (60 ∷ after))) e)) ∙ h))
    parted_tag (Some q) e = parted_followed q e (follows table q.inside ns) refl

  parted : (most : ℕ) (before after : List ℕ) (ns : List (List ℕ)) → length before ≤ most
      → closes (read table (before ++ 60 ∷ after)) ns ≡ true → IsParted before after ns
  parted most [] after ns le h = (ns, h, λ others c. c)
  parted zero (b ∷ bs) after ns le h = absurd (omega arith)
  parted (suc most) (b ∷ bs) after ns le h =
      let fewer : length bs ≤ most = omega arith in
      elim (cases_Bool (eqb b 60)) [
        | inl e ↦
            let is = eqb-true b 60 e in
            subst (λ b. IsParted (b ∷ bs) after ns) (sym is)
            (parted_tag bs after ns (λ before ms lt c. parted most before after ms (omega arith) c)
            (ap (λ b. closes (read table (b ∷ (bs ++ 60 ∷ after))) ns) (sym is) ∙ h) (split_tag bs) refl)
        | inr e ↦
            let both = and_parts (may_stand b (bs ++ 60 ∷ after)) (closes (read table (bs ++ 60 ∷ after)) ns)
            (sym (letter_more table b (bs ++ 60 ∷ after) ns e) ∙ h) in
            let rest = parted most bs after ns fewer both.1 in (
              rest.0,
              rest.1,
              λ others c.
                  letter_more table b (bs ++ others) ns e
                  ∙ and_from (may_stand b (bs ++ others)) (closes (read table (bs ++ others)) ns) (stands_kept (kind b) bs (60 ∷ after) others refl both.0)
                  (rest.2 others c),
            )
      ]

  -- ---- a page put into another one

  pub closes_safe : (page : List ℕ) → IsSafePageBy table page → closes (read table page) [] ≡ true
  closes_safe page p = (decided table page (closes (read table page) []) refl).1 p

  pub safe_closed : (page : List ℕ) → closes (read table page) [] ≡ true → IsSafePageBy table page
  safe_closed page h = (decided table page (closes (read table page) []) refl).0 h

  pub put_in : (before after inner : List ℕ) → IsSafePageBy table (before ++ 60 ∷ after) → IsSafePageBy table inner
      → IsSafePageBy table (before ++ (inner ++ 60 ∷ after))
  put_in before after inner page within =
      let place = parted (length before) before after [] (omega arith) (closes_safe (before ++ 60 ∷ after) page) in
      let more = page_ahead within.0 (60 ∷ after) place.0 within.1.0 place.1 in
      safe_closed (before ++ (inner ++ 60 ∷ after))
      (place.2 (inner ++ 60 ∷ after) (ap (λ x. closes (read table (x ++ 60 ∷ after)) place.0) (sym within.1.1) ∙ more))
