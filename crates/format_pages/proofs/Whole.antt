-- A text that is the same document as another.
use Rattle.std.proofs.Common.{◌≡◌, Bool, true, false, not, ℕ, List, [], ◌++◌, Option, None, Some, refl, sym, ap, ◌∙◌, subst, take, drop}
use Rattle.std.specs.Prelude.{IfSome, String, string_bytes, string_eq}
use Rattle.std.proofs.lemmas.List.{take-append-drop}
use Rattle.std.specs.Cmp.Lexicographic.{bytes_decides}
use Rattle.markdown_compile_options.specs.declared.configuration.Options.{Options}
use Rattle.markdown_definition.specs.Html.{html}
use Rattle.markdown_tables.specs.Builtin.{builtin_tables}
use Rattle.format_pages.specs.Calls.{with_calls}
use Rattle.format_pages.specs.Constructs.{by_every}
use Rattle.format_pages.specs.Front.{front_size}
use Rattle.format_pages.specs.Known.{HasCalled}
use Rattle.format_pages.specs.SameDocument.{IsSameDocument}

-- a text is the same document as itself
itself : (text : List ℕ) (options : Options) → IsSameDocument text text options
itself text options =
    record { every = refl; plain = refl; front = refl; footnotes = refl; called = refl; defined = refl; infos = refl }

pub same_text : (one other : List ℕ) (options : Options) → one ≡ other → IsSameDocument one other options
same_text one other options is = subst (λ text. IsSameDocument text other options) (sym is) (itself other options)

pub same_page : (one other : List ℕ) (options : Options) → one ≡ other → html builtin_tables one options ≡ html builtin_tables other options
same_page one other options is = ap (λ text. html builtin_tables text options) is

-- with no calls a text stays as it is
around : (n : ℕ) (text : List ℕ) → take n text ++ ([] ++ drop n text) ≡ text
around n text = take-append-drop n text

no_calls : (text : List ℕ) → with_calls [] text ≡ text
no_calls text = around (front_size text) text

-- two texts with the same calls, if each has the page that the other one has
pub called_same : {A : Type 0} (page : Option (String A)) (added wanted : List ℕ) (one other : List ℕ) (options : Options) → added ≡ wanted
    → html builtin_tables one (by_every options) ≡ html builtin_tables other (by_every options)
    → IfSome page (λ it. string_bytes it ≡ html builtin_tables (with_calls added other) (by_every options))
    → HasCalled page added one options
    → html builtin_tables (with_calls wanted one) (by_every options) ≡ html builtin_tables (with_calls wanted other) (by_every options)
called_same None added wanted one other options is every known has =
    ap (λ cs. html builtin_tables (with_calls cs one) (by_every options)) (sym is ∙ has)
    ∙ ap (λ text. html builtin_tables text (by_every options)) (no_calls one)
    ∙ every
    ∙ ap (λ text. html builtin_tables text (by_every options)) (sym (no_calls other))
    ∙ ap (λ cs. html builtin_tables (with_calls cs other) (by_every options)) (sym has ∙ is)
called_same (Some page) added wanted one other options is every known has =
    ap (λ cs. html builtin_tables (with_calls cs one) (by_every options)) (sym is)
    ∙ sym has ∙ known
    ∙ ap (λ cs. html builtin_tables (with_calls cs other) (by_every options)) is

-- a text that has a page is that of a known one, if it is equal to it
pub called_of : {A : Type 0} (known found : Option (String A)) (wanted called : String A) (lent added text : List ℕ) (options : Options)
    → known ≡ Some wanted → found ≡ Some called → lent ≡ added
    → IfSome found (λ it. string_bytes it ≡ html builtin_tables (with_calls lent text) (by_every options))
    → string_eq called wanted ≡ true → HasCalled known added text options
called_of known found wanted called lent added text options is of same page equal =
    subst (λ o. HasCalled o added text options) (sym is)
    (sym ((bytes_decides (string_bytes called) (string_bytes wanted)).0 equal)
    ∙ subst (λ o. IfSome o (λ it. string_bytes it ≡ html builtin_tables (with_calls lent text) (by_every options))) of page
    ∙ ap (λ cs. html builtin_tables (with_calls cs text) (by_every options)) same)

-- a page that was found equal to a known one
pub page_equal : {A : Type 0} (page wanted : String A) (wants : List ℕ) (found : Bool) → found ≡ string_eq page wanted → found ≡ true
    → string_bytes page ≡ wants → wants ≡ string_bytes wanted
page_equal page wanted wants found is same has = sym has ∙ (bytes_decides (string_bytes page) (string_bytes wanted)).0 (sym is ∙ same)

not_not : (b : Bool) → not b ≡ false → b ≡ true
not_not true h = refl
not_not false h = sym h

pub page_kept : {A : Type 0} (page wanted : String A) (wants : List ℕ) (differs : Bool) → differs ≡ not (string_eq page wanted) → differs ≡ false
    → string_bytes page ≡ wants → wants ≡ string_bytes wanted
page_kept page wanted wants differs is same has = page_equal page wanted wants true (sym (not_not (string_eq page wanted) (sym is ∙ same))) refl has
