-- The bytes whose runs may form spans, one by one.
use Rattle.std.proofs.Common.{inl, inr, ◌≡◌, ℕ, true, ◌==◌, ◌||◌, ◌&&◌, sym, subst}
use Rattle.std.proofs.lemmas.Bool.{and_parts, or_cases, eqb-true}
use Rattle.markdown_options.specs.declared.configuration.Constructs.{Constructs}
use Rattle.markdown_options.specs.declared.configuration.ParseOptions.{ParseOptions}
use Rattle.definition_inline.specs.GfmStrikethrough.{is_tilde}
use Rattle.definition_inline.specs.Mark.{is_equals}
use Rattle.definition_inline.specs.Attention.{is_marker}

module _ (options : ParseOptions) where
  abbrev on : Constructs
  on = options.constructs

  -- what holds of `*` and `_`, of `~` and of `=`, each where it is on, holds of every such byte
  pub of_marker : (Holds : ℕ → Type 0) → (on.attention ≡ true → Holds 42) → (on.attention ≡ true → Holds 95) → (on.gfm_strikethrough ≡ true → Holds 126)
      → (on.mark ≡ true → Holds 61) → (code : ℕ) → is_marker options code ≡ true → Holds code
  of_marker Holds asterisk underscore tilde equals code e =
      let asked = (code == 42) || (code == 95) in
      let strikes = on.gfm_strikethrough && is_tilde code in
      let marks = on.mark && is_equals code in
      elim (or_cases (on.attention && asked) (strikes || marks) e) [
        | inl h ↦
            let p = and_parts on.attention asked h in
            elim (or_cases (code == 42) (code == 95) p.1) [
              | inl is ↦ subst Holds (sym (eqb-true code 42 is)) (asterisk p.0)
              | inr is ↦ subst Holds (sym (eqb-true code 95 is)) (underscore p.0)
            ]
        | inr h ↦ elim (or_cases strikes marks h) [
          | inl s ↦
              let p = and_parts on.gfm_strikethrough (is_tilde code) s in
              subst Holds (sym (eqb-true code 126 p.1)) (tilde p.0)
          | inr m ↦
              let p = and_parts on.mark (is_equals code) m in
              subst Holds (sym (eqb-true code 61 p.1)) (equals p.0)
        ]
      ]
