-- A page with raw HTML in elements without a name, as the code cuts it.
use Rattle.std.specs.Prelude.{◌≡◌, ℕ, ◌-◌, Bool, true, false, not, if◌then◌else◌, List, [], ◌∷◌, ◌++◌, Option, None, Some, codes, drop, length}
use Rattle.std.proofs.Common.{Bor}
use Rattle.std.specs.List.{fold, take_while}
use Rattle.std.specs.Option.{option_map}
use Rattle.markdown_compile_options.specs.declared.configuration.CompileOptions.{CompileOptions}
use Rattle.definition_text.specs.Bytes.{begins_with, is_letter_or_digit}
use Rattle.definition_text.specs.Content.{Part}
use Rattle.definition_inline.specs.CharacterReference.{Names}
use Rattle.definition_inline.specs.GfmAutolinkLiteral.{ends_with}
use Rattle.html_safe_page.specs.Machine.{is_mark}
use Rattle.html_safe_page.specs.Reader.{read_text}
use Rattle.definition_html.specs.PageParts.{after_tag, is_in_tag, raw_run, page_parts}
use Rattle.definition_html.specs.State.{State, says, with_room, entered, left, all_ended}
use Rattle.definition_html.specs.Listed.{page_part}

-- ---- letters

-- a byte that stands for itself in a page
abbrev pub is_letter : ℕ → Bool
is_letter b = not (is_mark b)

-- one of the other bytes comes first
abbrev pub begins_marked : List ℕ → Bool
begins_marked [] = false
begins_marked (b ∷ bs) = is_mark b

-- the text of a letter and of what follows it
abbrev pub read_after : Option (Bor (List ℕ) × Bor (List ℕ)) → Option (List ℕ)
read_after None = None
read_after (Some p) = option_map (λ t. p.0.now ++ t) (read_text p.1.now)

-- ---- tags

-- elements without a name in a row that a page begins with
abbrev pub run_at : List ℕ → Part
run_at page = raw_run (length page - 1) page

-- a tag by what stands in it
abbrev pub in_brackets : List ℕ → List ℕ
in_brackets inside = codes "<" ++ inside ++ codes ">"

-- the name that a tag begins with
abbrev pub first_name : List ℕ → List ℕ
first_name inside = take_while is_letter_or_digit inside

-- the state after a tag of the page's own
abbrev pub own_printed : State → List ℕ → State
own_printed s inside =
    if begins_with (codes "/") inside then says (in_brackets inside) (left (all_ended s))
    else (if ends_with (codes " /") inside then says (in_brackets inside) (with_room (first_name inside) s)
    else entered (first_name inside) (says (in_brackets inside) (with_room (first_name inside) s)))

-- ---- pages

-- the state after what is left of a page
abbrev pub parts_after : Names → CompileOptions → State → List ℕ → State
parts_after names options s bytes = fold (page_part names options) s (page_parts bytes)

-- ---- text and tags of the page's own

-- a page begins with a tag of its own: what stands in it, and what follows its `>`
pub record IsOwnTag (page inside after : List ℕ) : Type 0 where
  pub spelling : page ≡ in_brackets inside ++ after
  pub named : begins_with (codes "<>") page ≡ false
  pub cut : inside ≡ take_while is_in_tag (drop 1 page)
  pub rest : after ≡ after_tag (drop 1 page)

-- a text up to `<` or to its end prints itself: it leads from one state to another, in which it isn't printed yet
pub record IsPlain (before after : State) (text rest : List ℕ) : Type 0 where
  pub run : List ℕ
  pub whole : text ≡ run ++ rest
  pub passed : (names : Names) (options : CompileOptions) → parts_after names options (says run after) rest ≡ parts_after names options before text
  pub stops : (length rest ≡ 0 → ⊥) → begins_with (codes "<") rest ≡ true
