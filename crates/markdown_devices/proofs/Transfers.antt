-- What several reads and writes did together.
use Rattle.std.proofs.Common.{◌≡◌, ℕ, ◌+◌, ◌-◌, ◌<◌, ◌≤◌, List, Option, None, Some, IfSome, length, take, drop, refl, sym, ap, ◌∙◌, subst, arith, Bool, true}
use Rattle.std.proofs.Common.{false, eqb, ltb, ◌||◌, ◌&&◌, inl, inr}
use Rattle.std.proofs.lemmas.Bool.{or_from, and_left, ne_eqb, cases_lt, lt-ltb, le-ltb}
use Rattle.std.specs.Prelude.{Result, Ok, Err, IfErr}
use Rattle.std.specs.Io.{StartsWith, appended_bytes}
use Rattle.std.specs.Io.KnownBytes.{Appends, Consumes, IsAtEnd}
use Rattle.std.proofs.KnownBytes.{Appends-trans, Consumes-trans, Consumes-whole, starts_with_rest}
use Rattle.std.proofs.lemmas.List.{length-append}
use Rattle.std.proofs.Math.Seq.{take-add}
use Rattle.markdown_compile_options.specs.declared.configuration.Options.{Options}
use Rattle.markdown_definition.specs.Html.{html}
use Rattle.markdown_definition.specs.TextTables.{TextTables}
use Rattle.markdown_devices.specs.Transfer.{AppendsBeginning, RefusesPast}

-- the next write goes on where the last one ended
pub Appends-more : (a b c : Option (List ℕ)) (bytes : List ℕ) (at n : ℕ) → Appends a b (take at bytes) → Appends b c (take n (drop at bytes))
    → Appends a c (take (at + n) bytes)
Appends-more a b c bytes at n first second = subst (Appends a c) (sym (take-add at n bytes)) (Appends-trans a b c _ _ first second)

-- the next read goes on where the last one ended
pub Consumes-next : (a b c : Option (List ℕ)) (old new : List ℕ) → Consumes a b old → StartsWith new old → Consumes b c (appended_bytes old new)
    → Consumes a c new
Consumes-next a b c old new first starts second =
    subst (Consumes a c) (sym (starts_with_rest new old starts)) (Consumes-trans a b c _ _ first second)

-- a reader at its end gave all
pub Consumes-all_read : (a c : Option (List ℕ)) (bytes : List ℕ) → Consumes a c bytes → IsAtEnd c → IfSome a (λ text. bytes ≡ text)
Consumes-all_read a c bytes took end = Consumes-whole a c bytes (λ text. bytes ≡ text) took end refl

-- two orders that go together
same_order : (a b c d : ℕ) → (a < b → c < d) → (c < d → a < b) → ltb a b ≡ ltb c d
same_order a b c d there back =
    elim (cases_lt a b) [
      | inl h ↦ lt-ltb a b h ∙ sym (lt-ltb c d (there h))
      | inr h ↦ elim (cases_lt c d) [ inl k ↦ let below = back k in absurd (omega arith) | inr k ↦ le-ltb a b h ∙ sym (le-ltb c d k) ]
    ]

-- what a read refused, after what was read before it
pub RefusesPast-after : (a b c : Option (List ℕ)) (bytes : List ℕ) (most len : ℕ) (refused : Bool) → len ≡ length bytes → len ≤ most → Consumes a b bytes
    → RefusesPast (most - len) b c refused → RefusesPast most a c refused
RefusesPast-after None b c bytes most len refused same fits took more = tt
RefusesPast-after (Some x) None c bytes most len refused same fits took more = absurd took
RefusesPast-after (Some x) (Some y) None bytes most len refused same fits took more = tt
RefusesPast-after (Some x) (Some y) (Some z) bytes most len refused same fits took more =
    let sizes = ap length took ∙ length-append bytes y in
    more ∙ same_order _ _ _ _ (λ below. omega (arith, sizes)) (λ below. omega (arith, sizes))

-- a write that took some bytes is no failure
pub still_working : (old new some : Bool) (n : ℕ) → new ≡ (old || ((eqb n 0) && some)) → old ≡ false → (n ≡ 0 → ⊥) → new ≡ false
still_working old new some n e was took = e ∙ or_from old (eqb n 0 && some) was (and_left (eqb n 0) some (ne_eqb n 0 took))

-- and none that took nothing
pub still_moving : (old new some : Bool) (n : ℕ) → new ≡ (old || ((eqb n 0) && some)) → (n ≡ 0 → ⊥) → new ≡ old
still_moving true new some n e took = e
still_moving false new some n e took = e ∙ and_left (eqb n 0) some (ne_eqb n 0 took)

-- a read that gave some bytes is no end
pub still_going : (old new : Bool) (n : ℕ) → new ≡ (old || eqb n 0) → (n ≡ 0 → ⊥) → new ≡ old
still_going true new n e some = e
still_going false new n e some = e ∙ ne_eqb n 0 some

-- the page of the bytes that were read is that of the text
pub page_of_text : (known old new : Option (List ℕ)) (bytes page : List ℕ) (tables : TextTables) (options : Options) → IfSome known (λ text. bytes ≡ text)
    → page ≡ html tables bytes options
    → Appends old new page → IfSome known (λ text. Appends old new (html tables text options))
page_of_text None old new bytes page tables options read made wrote = tt
page_of_text (Some x) old new bytes page tables options read made wrote = subst (Appends old new) (made ∙ ap (λ t. html tables t options) read) wrote

-- a beginning of it is one of the text's page
pub begins_of_text : (known old new : Option (List ℕ)) (bytes page : List ℕ) (tables : TextTables) (options : Options) → IfSome known (λ text. bytes ≡ text)
    → page ≡ html tables bytes options
    → AppendsBeginning old new page → IfSome known (λ text. AppendsBeginning old new (html tables text options))
begins_of_text None old new bytes page tables options read made wrote = tt
begins_of_text (Some x) old new bytes page tables options read made wrote =
    subst (AppendsBeginning old new) (made ∙ ap (λ t. html tables t options) read) wrote

-- what holds holds of an error that passes a test
pub if_err_from : {T E P : Type 0} (test : E → Bool) (r : Result T E) → P → IfErr r (λ e. test e ≡ true → P)
if_err_from test (Ok x) p = tt
if_err_from test (Err e) p = λ _. p
