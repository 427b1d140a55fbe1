-- Which fault may come of words that ask for a page, for the help or the version.
use Rattle.std.proofs.Common.{◌≡◌, true, [], ◌∷◌, refl, inl, inr, arith}
use Rattle.std.specs.Prelude.{Result, Ok, Err, IfErr}
use Rattle.clap.specs.Words.{Kinds, Text}
use Rattle.clap.specs.declared.error.kind.ErrorKind.TheVariants.{DisplayHelp, DisplayVersion}
use Rattle.markdown_settings.specs.Settings.{AsksFor, HasFault}
use Rattle.markdown_devices.specs.declared.fault.Fault.{Fault}
use Rattle.markdown_devices.specs.declared.fault.Fault.TheVariants.{Words, References, Rows, Run}
use Rattle.markdown_devices.specs.declared.run_error.RunError.TheVariants.{Size, Utf8, Memory, Read, Write, Stopped}
use Rattle.markdown_devices.specs.Statuses.{MayComeOf, is_write_fault, status_of}

-- words without a fault ask for no help
pub none_asks : (kinds : Kinds) (text : Text) → AsksFor kinds text → kinds ≡ [] → ⊥
none_asks [] text (inl h) e = h.0
none_asks [] text (inr h) e = h.0
none_asks (k ∷ ks) text h e = cc

asks : (kinds : Kinds) (text : Text) → AsksFor kinds text → HasFault kinds true
asks kinds text (inl h) = (DisplayHelp, h.0, refl)
asks kinds text (inr h) = (DisplayVersion, h.0, refl)

of_page : (kinds : Kinds) (fault : Fault) → kinds ≡ [] → status_of fault ≡ 1 → MayComeOf kinds fault
of_page kinds Words none one = absurd (omega (arith, one))
of_page kinds References none one = inl none
of_page kinds (Rows e) none one = inl none
of_page kinds (Run Size) none one = inl none
of_page kinds (Run Utf8) none one = inl none
of_page kinds (Run Memory) none one = tt
of_page kinds (Run (Read e)) none one = inl none
of_page kinds (Run (Write e)) none one = inl none
of_page kinds (Run Stopped) none one = inl none

of_writer : (kinds : Kinds) (fault : Fault) → HasFault kinds true → is_write_fault fault ≡ true → MayComeOf kinds fault
of_writer kinds Words asked wrote = cc
of_writer kinds References asked wrote = cc
of_writer kinds (Rows e) asked wrote = cc
of_writer kinds (Run Size) asked wrote = cc
of_writer kinds (Run Utf8) asked wrote = cc
of_writer kinds (Run Memory) asked wrote = tt
of_writer kinds (Run (Read e)) asked wrote = cc
of_writer kinds (Run (Write e)) asked wrote = inr (asked, refl)
of_writer kinds (Run Stopped) asked wrote = inr (asked, refl)

pub may_come_of_page : {T : Type 0} (kinds : Kinds) (outcome : Result T Fault) → kinds ≡ [] → IfErr outcome (λ fault. status_of fault ≡ 1)
    → IfErr outcome (MayComeOf kinds)
may_come_of_page kinds (Ok x) none one = tt
may_come_of_page kinds (Err fault) none one = of_page kinds fault none one

pub may_come_of_writer : {T : Type 0} (kinds : Kinds) (text : Text) (outcome : Result T Fault) → AsksFor kinds text
    → IfErr outcome (λ fault. is_write_fault fault ≡ true) → IfErr outcome (MayComeOf kinds)
may_come_of_writer kinds text (Ok x) asked wrote = tt
may_come_of_writer kinds text (Err fault) asked wrote = of_writer kinds fault (asks kinds text asked) wrote
