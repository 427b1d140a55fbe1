-- An outcome of the program, as its status and its complaint tell it.
use Rattle.std.proofs.Common.{◌≡◌, ℕ, false, List, Option, refl, sym, ap, ◌∙◌, subst, arith, eqb}
use Rattle.std.specs.Prelude.{Result, Ok, Err, MatchResult, IfErr, is_ok}
use Rattle.std.specs.Io.KnownBytes.{Keeps}
use Rattle.std.proofs.KnownBytes.{Keeps-refl}
use Rattle.clap.specs.Words.{Kinds}
use Rattle.markdown_devices.specs.declared.fault.Fault.{Fault}
use Rattle.markdown_devices.specs.declared.fault.Fault.TheVariants.{Words, References, Rows, Run}
use Rattle.markdown_devices.specs.declared.watched.Watched.{Watched}
use Rattle.markdown_devices.specs.Program.{Complains}
use Rattle.markdown_devices.specs.Statuses.{MayComeOf, status_of}
use Rattle.markdown_devices.specs.Watched.{device}

-- how an outcome is told
abbrev pub Tells : {T F : Type 0} → (F → Option (List ℕ)) → Watched F → Watched F → ℕ → Result T Fault → Type 0
Tells lines faults faults' status outcome =
    MatchResult outcome (λ _. (status ≡ 0) × (faults' ≡ faults)) (Complains lines faults faults' status)

some_status : (fault : Fault) → status_of fault ≡ 0 → ⊥
some_status Words h = omega (arith, h)
some_status References h = omega (arith, h)
some_status (Rows e) h = omega (arith, h)
some_status (Run e) h = omega (arith, h)

no_success : (fault : Fault) → eqb (status_of fault) 0 ≡ false
no_success Words = refl
no_success References = refl
no_success (Rows e) = refl
no_success (Run e) = refl

pub succeeds : {T F : Type 0} (lines : F → Option (List ℕ)) (faults faults' : Watched F) (status : ℕ) (outcome : Result T Fault)
    → Tells lines faults faults' status outcome → is_ok outcome ≡ eqb status 0
succeeds lines faults faults' status (Ok x) told = sym (ap (λ n. eqb n 0) told.0)
succeeds lines faults faults' status (Err fault) told = sym (ap (λ n. eqb n 0) told.0 ∙ no_success fault)

pub silent : {T F : Type 0} (lines : F → Option (List ℕ)) (faults faults' : Watched F) (status : ℕ) (outcome : Result T Fault)
    → Tells lines faults faults' status outcome → status ≡ 0 → Keeps (lines (device faults)) (lines (device faults'))
silent lines faults faults' status (Ok x) told zero =
    subst (λ f. Keeps (lines (device faults)) (lines (device f))) (sym told.1) (Keeps-refl (lines (device faults)))
silent lines faults faults' status (Err fault) told zero = absurd (some_status fault (sym told.0 ∙ zero))

pub complains : {T F : Type 0} (kinds : Kinds) (lines : F → Option (List ℕ)) (faults faults' : Watched F) (status : ℕ) (outcome : Result T Fault)
    → IfErr outcome (MayComeOf kinds) → Tells lines faults faults' status outcome → ¬ (status ≡ 0)
    → (fault : Fault) × MayComeOf kinds fault × Complains lines faults faults' status fault
complains kinds lines faults faults' status (Ok x) may told some = absurd (some told.0)
complains kinds lines faults faults' status (Err fault) may told some = (fault, may, told)
