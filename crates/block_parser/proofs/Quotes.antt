-- Blank lines in items and footnote definitions, which all go on.
use Rattle.std.proofs.Common.{◌≡◌, ℕ, zero, suc, ◌+◌, ◌-◌, ◌<◌, Bool, true, false, not, eqb, List, [], ◌∷◌, ◌++◌, Some, inl, inr, refl, sym, ap, ◌∙◌, subst}
use Rattle.std.proofs.Common.{if◌then◌else◌, length, get_or, arith}
use Rattle.std.proofs.Math.Seq.{drop-nil}
use Rattle.block_parser.proofs.Prelude.{and_parts, At, began_blank, Beside, beside_in, Blocks, choose_if, CodeContainer, cond-true, Constructs, Container}
use Rattle.block_parser.proofs.Prelude.{container_line, container_view, container_views, containers_of, continues, Descent, indent, Inside, is_blank}
use Rattle.block_parser.proofs.Prelude.{is_one_blank, is_quote, length-append, Level, map-append, ne_eqb, NoQuoteFrom, Opening, Quote, Rest, Spine, spine_at}
use Rattle.block_parser.proofs.Prelude.{spine_of, Tree}
use Rattle.std.proofs.lemmas.Bool.{cases_lt}
use Rattle.std.proofs.lemmas.List.{get_or_append_left, get_or_default}
use Rattle.markdown_options.specs.declared.beside.Kind.TheVariants.{Whitespace}
use Rattle.definition_text.specs.Columns.{Code, is_white}
use Rattle.definition_block.specs.Container.{Item, Footnote}
use Rattle.block_parser.specs.Quotes.{NoneBeganBlank}
use Rattle.block_parser.proofs.Closing.{length-containers}
use Rattle.block_parser.proofs.Descending.{get-append, goes_inside, and-swap}

some_codes : (c : Code) (cs : Rest) → eqb (length (c ∷ cs)) 0 ≡ false
some_codes c cs = ne_eqb (length (c ∷ cs)) 0 (λ none. absurd (omega (arith, none)))

-- a blank rest is empty where it has no indent
pub blank_empty : (r : Rest) → is_blank r ≡ true → eqb (indent r) 0 ≡ eqb (length r) 0
blank_empty [] h = refl
blank_empty (c ∷ cs) h =
    ne_eqb (indent (c ∷ cs)) 0 (λ none. absurd (omega (arith, none, cond-true (is_white c) (1 + indent cs) 0 (and_parts (is_white c) (is_blank cs) h).0)))
    ∙ sym (some_codes c cs)

pub some_left : (r : Rest) → is_blank r ≡ false → false ≡ eqb (length r) 0
some_left [] h = sym h
some_left (c ∷ cs) h = sym (some_codes c cs)

-- ---- where the quotes end

no_quote_added : (n : ℕ) (cs : List Container) (c : Container) → is_quote c ≡ false → NoQuoteFrom n cs → NoQuoteFrom n (cs ++ c ∷ [])
no_quote_added n cs c is h = λ k from to. elim (cases_lt k (length cs)) [
  | inl before ↦ ap is_quote (get_or_append_left cs (c ∷ []) Quote k before) ∙ h k from before
  | inr past ↦
      let last : k ≡ length cs = omega (arith, to, past, length-append cs (c ∷ [])) in
      ap (λ i. is_quote (get_or (cs ++ c ∷ []) i Quote)) last ∙ ap is_quote (get-append cs c [] Quote) ∙ is
]

-- one that is no quote is added, if there is memory for it
pub no_quote_more : (n : ℕ) (added : Bool) (old new : List CodeContainer) (c : CodeContainer) → new ≡ (if added then old ++ c ∷ [] else old)
    → is_quote (container_view c) ≡ false → NoQuoteFrom n (container_views old) → NoQuoteFrom n (container_views new)
no_quote_more n added old new c items is h =
    subst (λ (cs : List CodeContainer). NoQuoteFrom n (container_views cs)) (sym items)
    (choose_if (λ (cs : List CodeContainer). NoQuoteFrom n (container_views cs)) added (old ++ c ∷ []) old
    (λ _. subst (λ (cs : List Container). NoQuoteFrom n cs) (sym (map-append container_view old (c ∷ [])))
    (no_quote_added n (container_views old) (container_view c) is h)) (λ _. h))

pub no_quote_less : (n : ℕ) (cs : List Container) (c : Container) → NoQuoteFrom n (cs ++ c ∷ []) → NoQuoteFrom n cs
no_quote_less n cs c h = λ k from to. ap is_quote (sym (get_or_append_left cs (c ∷ []) Quote k to)) ∙ h k from (omega (arith, to, length-append cs (c ∷ [])))

pub no_quote_before : (n : ℕ) (cs : List Container) → is_quote (get_or cs n Quote) ≡ false → NoQuoteFrom (n + 1) cs → NoQuoteFrom n cs
no_quote_before n cs is h = λ k from to. elim (cases_lt n k) [
  | inl after ↦ h k (omega (arith, after)) to
  | inr past ↦ let here : k ≡ n = omega (arith, from, past) in ap (λ i. is_quote (get_or cs i Quote)) here ∙ is
]

pub popped : (n : ℕ) (old new : List CodeContainer) (c : CodeContainer) → old ≡ new ++ c ∷ [] → NoQuoteFrom n (container_views old)
    → NoQuoteFrom n (container_views new)
popped n old new c is h =
    no_quote_less n (container_views new) (container_view c)
    (subst (λ (cs : List Container). NoQuoteFrom n cs) (ap container_views is ∙ map-append container_view new (c ∷ [])) h)

pub not_true : (b : Bool) → not b ≡ true → b ≡ false
not_true true h = sym h
not_true false h = refl

-- ---- only the innermost container can have begun with a blank line

pub none_began : (t : Tree) (containers : List Container) → containers ≡ containers_of (spine_of t).around
    → ((around : List Level) (kids inner_kids : Blocks) (c : Container) (inner : Opening) → length containers ≡ length around + 1
    → spine_at around kids (Inside c inner_kids inner) ≡ spine_of t → began_blank inner_kids inner ≡ false)
    → NoneBeganBlank t
none_began t containers opened last around kids inner_kids c (At leaf) same =
    last around kids inner_kids c (At leaf)
    (omega (arith, ap length opened, length-containers (spine_of t).around, ap (λ (s : Spine). length s.around) same)) same
none_began t containers opened last around kids inner_kids c (Inside inner_c others inner) same = and-swap (is_one_blank inner_kids) false

-- ---- an empty rest in containers without quotes

module _ (on : Constructs) (beside : Beside) (line : Rest) (t : Tree) (containers : List Container) (opened : containers ≡ containers_of (spine_of t).around)
    (none : NoneBeganBlank t) where
  goes-on : (c : Container) → is_quote c ≡ false → continues on c false [] ≡ Some (container_line [] Whitespace)
  goes-on Quote h = let wrong : true ≡ false = h in cc
  goes-on (Item item) h = ap (λ r. Some (container_line r Whitespace)) (drop-nil item.size)
  goes-on (Footnote label) h = refl

  one-more : (depth : ℕ) (here : Beside) → depth < length containers → NoQuoteFrom depth containers
      → Descent on beside line t 0 depth [] here → Descent on beside line t 0 (depth + 1) [] (beside_in Whitespace here)
  one-more depth here lt quotes d =
      let c = get_or containers depth Quote in
      goes_inside on beside line t depth [] here containers opened lt c (get_or_default containers depth Quote c lt) false
      (λ around kids inner_kids holder inner deep same. sym (none around kids inner_kids holder inner same))
      (container_line [] Whitespace) (goes-on c (quotes depth (omega arith) lt)) d

  all-from : (n depth : ℕ) (here : Beside) → depth + n ≡ length containers → NoQuoteFrom depth containers
      → Descent on beside line t 0 depth [] (beside_in Whitespace here) → Descent on beside line t 0 (length containers) [] (beside_in Whitespace here)
  all-from zero depth here e quotes d =
      let same : depth ≡ length containers = omega (arith, e) in
      subst (λ m. Descent on beside line t 0 m [] (beside_in Whitespace here)) same d
  all-from (suc n) depth here e quotes d =
      all-from n (depth + 1) here (omega (arith, e)) (λ k from to. quotes k (omega (arith, from)) to)
      (one-more depth (beside_in Whitespace here) (omega (arith, e)) quotes d)

  pub all_go_on : (depth : ℕ) (here : Beside) → depth < length containers → NoQuoteFrom depth containers
      → Descent on beside line t 0 depth [] here
      → Descent on beside line t (length containers) (length containers) [] (beside_in Whitespace here)
  all_go_on depth here lt quotes d =
      let all = all-from (length containers - (depth + 1)) (depth + 1) here (omega (arith, lt)) (λ k from to. quotes k (omega (arith, from)) to)
      (one-more depth here lt quotes d) in
      record {
        around = all.around;
        kids = all.kids;
        now = all.now;
        deep = all.deep;
        same = all.same;
        grows = all.grows;
        stuck = λ wrong. absurd (omega (arith, wrong));
      }
