-- The containers of a walk, as the definition has them.
use Rattle.std.proofs.Common.{◌≡◌, ℕ, ◌+◌, ◌-◌, ◌<◌, ◌≤◌, suc, zero, Bool, true, false, ◌||◌, List, [], ◌∷◌, ◌++◌, Option, None, Some, Bor, refl, sym, ap}
use Rattle.std.proofs.Common.{◌∙◌, subst, arith, get_or, drop, length, ltb, length-append}
use Rattle.std.specs.Prelude.{is_some, IfSome}
use Rattle.std.specs.Option.{option_copied}
use Rattle.parse_lines.proofs.Prelude.{AreQuotesWithin, CodeContainer, Container, container_view, container_views, drop_all, indent, is_blank, is_quote}
use Rattle.parse_lines.proofs.Prelude.{length-map, list_any, list_any-append, map-append, or_parts, Rest}
use Rattle.std.proofs.lemmas.List.{drop_more, get_or-map}
use borrow.Author.Tests.{ltb-true}
use Rattle.markdown_options.specs.declared.container.Container.TheVariants as code
use Rattle.block_starts.proofs.MarkLemmas.{indent_blank}
use Rattle.parse_lines.proofs.Prefixes.{none_later}

-- the containers from one on
pub views_split : (cs : List CodeContainer) (i : ℕ) (d : CodeContainer) → i < length cs
    → drop i (container_views cs) ≡ container_view (get_or cs i d) ∷ drop (i + 1) (container_views cs)
views_split cs i d lt =
    let size : length (container_views cs) ≡ length cs = length-map cs container_view in
    drop_more (container_views cs) i (container_view d) (omega arith)
    ∙ ap (λ (c : Container). c ∷ drop (i + 1) (container_views cs)) (get_or-map container_view cs i d (container_view d) lt)

-- another container
pub no_quote : (c : CodeContainer) → (c ≡ code.Quote → ⊥) → is_quote (container_view c) ≡ false
no_quote code.Quote h = absurd (h refl)
no_quote (code.Item item) h = refl
no_quote (code.Footnote label) h = refl

-- the one before a place is no quote
pub quotes_before : (cs : List CodeContainer) (n : ℕ) → 0 < n → n ≤ length cs → (get_or cs (n - 1) code.Quote ≡ code.Quote → ⊥)
    → AreQuotesWithin n (container_views cs) → AreQuotesWithin (n - 1) (container_views cs)
quotes_before cs n some within other h =
    let back : (n - 1) + 1 ≡ n = omega arith in
    ap (list_any is_quote) (views_split cs (n - 1) code.Quote (omega arith))
    ∙ ap (λ (b : Bool). b || list_any is_quote (drop ((n - 1) + 1) (container_views cs))) (no_quote (get_or cs (n - 1) code.Quote) other)
    ∙ ap (λ (k : ℕ). list_any is_quote (drop k (container_views cs))) back ∙ h

found_at : (cs : List CodeContainer) (i : ℕ) (o : Option (Bor CodeContainer)) (c : CodeContainer) → is_some o ≡ ltb i (length cs)
    → IfSome o (λ x. x.now ≡ get_or cs i x.now) → Some c ≡ option_copied o → (i < length cs) × (get_or cs i c ≡ c)
found_at cs i None c some is e = absurd (cc)
found_at cs i (Some x) c some is e =
    let same : c ≡ x.now = cc in
    (ltb-true i (length cs) (sym some), ap (get_or cs i) same ∙ sym is ∙ sym same)

-- the same, by the container that is there
pub views_get : (cs slice : List CodeContainer) (i : ℕ) (o : Option (Bor CodeContainer)) (c : CodeContainer) → slice ≡ cs
    → is_some o ≡ ltb i (length slice) → IfSome o (λ x. x.now ≡ get_or slice i x.now) → Some c ≡ option_copied o
    → drop i (container_views cs) ≡ container_view c ∷ drop (i + 1) (container_views cs)
views_get cs slice i o c same some is e =
    let found = found_at slice i o c some is e in
    subst (λ (xs : List CodeContainer). drop i (container_views xs) ≡ container_view c ∷ drop (i + 1) (container_views xs)) same (
    views_split slice i c found.0 ∙ ap (λ (x : CodeContainer). container_view x ∷ drop (i + 1) (container_views slice)) found.1
    )

-- ---- one more, or one fewer

-- one more after the others
pub views_more : (cs : List CodeContainer) (c : CodeContainer) → container_views (cs ++ c ∷ []) ≡ container_views cs ++ container_view c ∷ []
views_more cs c = map-append container_view cs (c ∷ [])

none_in_front : (n : ℕ) (xs ys : List Container) → list_any is_quote (drop n (xs ++ ys)) ≡ false → list_any is_quote (drop n xs) ≡ false
none_in_front zero xs ys h = (or_parts (list_any is_quote xs) (list_any is_quote ys) (sym (list_any-append is_quote xs ys) ∙ h)).0
none_in_front (suc n) [] ys h = refl
none_in_front (suc n) (x ∷ xs) ys h = none_in_front n xs ys h

pub quotes_fewer : (n : ℕ) (xs : List Container) (c : Container) → AreQuotesWithin n (xs ++ c ∷ []) → AreQuotesWithin n xs
quotes_fewer n xs c h = none_in_front n xs (c ∷ []) h

none_beside : (n : ℕ) (xs ys : List Container) → list_any is_quote (drop n xs) ≡ false → list_any is_quote ys ≡ false
    → list_any is_quote (drop n (xs ++ ys)) ≡ false
none_beside zero xs ys h k = list_any-append is_quote xs ys ∙ ap (λ b. b || list_any is_quote ys) h ∙ k
none_beside (suc n) [] ys h k = none_later 0 (suc n) ys (omega arith) k
none_beside (suc n) (x ∷ xs) ys h k = none_beside n xs ys h k

-- one that is no quote
pub quotes_other : (n : ℕ) (xs : List Container) (c : Container) → is_quote c ≡ false → AreQuotesWithin n xs → AreQuotesWithin n (xs ++ c ∷ [])
quotes_other n xs c other h = none_beside n xs (c ∷ []) h (ap (λ b. b || false) other)

-- any, where it is before the place
pub quotes_last : (n : ℕ) (xs : List Container) (c : Container) → length xs + 1 ≤ n → AreQuotesWithin n (xs ++ c ∷ [])
quotes_last n xs c le =
    let size = length-append xs (c ∷ []) in
    let one : length (c ∷ []) ≡ 1 = refl in
    ap (list_any is_quote) (drop_all n (xs ++ c ∷ []) (omega arith))

-- a rest without a column of white space, of which nothing but white space is left
pub nothing_blank : (rest : Rest) → is_blank rest ≡ true → indent rest ≡ 0 → rest ≡ []
nothing_blank [] blank none = refl
nothing_blank (c ∷ cs) blank none = let e = indent_blank (c ∷ cs) blank in absurd (omega arith)
