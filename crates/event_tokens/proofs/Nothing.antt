-- No bytes fit the forms of characters and of bytes of a kind.
use Rattle.std.proofs.Common.{◌≡◌, Bool, true, false, ◌&&◌, ◌||◌, [], ◌∷◌, inl, inr, refl, sym, ap, ap₂, ◌∙◌}
use Rattle.std.proofs.lemmas.Bool.{and_parts, or_cases, or_right, true≢false}
use Rattle.std.proofs.lemmas.Str.{IsUtf8-nil, is_utf8-from_IsUtf8}
use Rattle.engine_events.specs.declared.event.Name.{Name}
use Rattle.event_grammar.specs.Void.{is_void}
use Rattle.event_grammar.proofs.EveryName.{of_each}
use Rattle.event_tokens.specs.Tokens.{Form, fits, is_token, token_form, Characters, Ending, Number, All, Most, Run, Only, Least, Such, Either, Both}

-- whether no bytes fit
abbrev pub may_be_nothing : Form → Bool
may_be_nothing Characters = true
may_be_nothing (All kind) = true
may_be_nothing (Only []) = true
may_be_nothing (Either one other) = may_be_nothing one || may_be_nothing other
may_be_nothing (Both one other) = may_be_nothing one && may_be_nothing other
may_be_nothing form = false

pub nothing_fits : (form : Form) → may_be_nothing form ≡ true → fits form [] ≡ true
nothing_fits Characters may = is_utf8-from_IsUtf8 [] IsUtf8-nil
nothing_fits Ending may = absurd (true≢false (sym may))
nothing_fits (Number most) may = absurd (true≢false (sym may))
nothing_fits (All kind) may = refl
nothing_fits (Most most kind) may = absurd (true≢false (sym may))
nothing_fits (Run marks) may = absurd (true≢false (sym may))
nothing_fits (Only []) may = refl
nothing_fits (Only (b ∷ bs)) may = absurd (true≢false (sym may))
nothing_fits (Least least kind) may = absurd (true≢false (sym may))
nothing_fits (Such test) may = absurd (true≢false (sym may))
nothing_fits (Either one other) may =
    elim (or_cases (may_be_nothing one) (may_be_nothing other) may) [
      | inl first ↦ ap (λ (b : Bool). b || fits other []) (nothing_fits one first)
      | inr second ↦ or_right (fits one []) (fits other []) (nothing_fits other second)
    ]
nothing_fits (Both one other) may =
    let parts = and_parts (may_be_nothing one) (may_be_nothing other) may in
    ap₂ (λ (b c : Bool). b && c) (nothing_fits one parts.0) (nothing_fits other parts.1)

-- so they do for names that have rows
pub nothing_held : (name : Name) → is_void name ≡ false → is_token name [] ≡ true
nothing_held name held =
    nothing_fits (token_form name)
    (sym (ap (λ (b : Bool). b || may_be_nothing (token_form name)) held) ∙ of_each (λ name. is_void name || may_be_nothing (token_form name)) refl name)
