-- What a run of the program does, by what its devices were and are, and how it ends.
use Rattle.std.specs.Prelude.{◌≡◌, ◌⊎◌, ◌==◌, ℕ, Bool, true, false, List, [], Option}
use Rattle.std.specs.Io.KnownBytes.{Appends, Keeps}
use Rattle.clap.specs.Words.{Kinds, Text}
use Rattle.markdown_compile_options.specs.declared.configuration.Options.{Options}
use Rattle.markdown_settings.specs.Settings.{AsksFor, faults_of, file_of, path_of, MeanWords}
use Rattle.markdown_devices.specs.declared.fault.Fault.{Fault}
use Rattle.markdown_devices.specs.declared.watched.Watched.{Watched}
use Rattle.markdown_devices.specs.Complaints.{complaint}
use Rattle.markdown_devices.specs.Endings.{EndsBy}
use Rattle.markdown_devices.specs.Statuses.{MayComeOf, status_of}
use Rattle.markdown_devices.specs.Transfer.{AppendsBeginning}
use Rattle.markdown_devices.specs.Watched.{device, has_failed, has_flushed, has_flush_failed}

-- how the writing of a text ends
pub record WritesText {E : Type 0} (contents : E → Option (List ℕ)) (writer writer' : Watched E) (ok : Bool) (text : List ℕ) : Type 0 where
  -- well: all of it was written, and nothing else
  pub whole : ok ≡ true → Appends (contents (device writer)) (contents (device writer')) text
  -- where the writer failed, a beginning of it
  pub write : has_failed writer' ≡ true → (ok ≡ false) × AppendsBeginning (contents (device writer)) (contents (device writer')) text
  -- where the flush failed, all of it
  pub flush : has_flush_failed writer ≡ false → has_flush_failed writer' ≡ true
      → (ok ≡ false) × Appends (contents (device writer)) (contents (device writer')) text
  -- it ends well exactly where the writer was flushed in the end
  pub flushed : has_flushed writer ≡ false → ok ≡ has_flushed writer'

-- words with these faults are answered by the text that they ask for, the help or the version, or by none
abbrev pub WritesAnswer : {E : Type 0} → Kinds → (E → Option (List ℕ)) → Watched E → Watched E → Bool → Type 0
WritesAnswer kinds contents writer writer' ok =
    ((ok ≡ false) × (writer' ≡ writer)) ⊎ ((text : Text) × AsksFor kinds text × WritesText contents writer writer' ok text)

-- how a conversion for words ends: nothing is read or written where memory is refused before, and otherwise it ends by options that the words mean
abbrev pub EndsForWords : {D E G : Type 0} → List Text → (G → Option (List ℕ)) → (D → Option (List ℕ)) → (E → Option (List ℕ))
    → Watched D → Watched D → Watched E → Watched E → Bool → Type 0
EndsForWords words held remaining contents reader reader' writer writer' ok =
    ((ok ≡ false) × (reader' ≡ reader) × (writer' ≡ writer))
    ⊎ ((options : Options) × MeanWords words options
    × EndsBy (file_of words) (path_of words) options held remaining contents reader reader' writer writer' ok)

-- a fault ends the program with its status, and is one line where that can be printed
abbrev pub Complains : {F : Type 0} → (F → Option (List ℕ)) → Watched F → Watched F → ℕ → Fault → Type 0
Complains contents faults faults' status fault =
    (status ≡ status_of fault) × (has_failed faults' ≡ false → Appends (contents (device faults)) (contents (device faults')) (complaint fault))

-- what the program does for words, without its name; `held` is what an opened file holds
pub record Runs {D E F G : Type 0} (words : List Text) (held : G → Option (List ℕ))
    (remaining : D → Option (List ℕ)) (contents : E → Option (List ℕ)) (lines : F → Option (List ℕ))
    (reader reader' : Watched D) (writer writer' : Watched E) (faults faults' : Watched F) (status : ℕ) : Type 0 where
  -- words without a fault ask for a page, of their file or of the reader: 0 where all of it was written
  pub page : faults_of words ≡ []
      → EndsForWords words held remaining contents reader reader' writer writer' (status == 0)
  -- others may ask for the help or the version, and nothing is read for them
  pub answer : ¬ (faults_of words ≡ []) → WritesAnswer (faults_of words) contents writer writer' (status == 0)
  pub unread : ¬ (faults_of words ≡ []) → reader' ≡ reader
  -- 0: there is no complaint
  pub silent : status ≡ 0 → Keeps (lines (device faults)) (lines (device faults'))
  -- otherwise the complaint is of a fault that may come of these words, and the status is that of this fault
  pub complaint : ¬ (status ≡ 0) → (fault : Fault) × MayComeOf (faults_of words) fault × Complains lines faults faults' status fault
