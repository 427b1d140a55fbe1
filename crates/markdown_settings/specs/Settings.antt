-- What the words of the command line ask for.
use Rattle.std.specs.Prelude.{◌≡◌, ◌⊎◌, ⊤, Bool, true, false, if◌then◌else◌, List, Option, Some, None, codes, map, string_bytes}
use Rattle.std.specs.Str.{bytes_eq}
use Rattle.std.specs.declared.string.String.{String}
use Rattle.clap.specs.Words.{Kinds, IsAmong, Row, Text, fault_of, first_of, matches_of, takes}
use Rattle.clap.specs.declared.error.kind.ErrorKind.{ErrorKind}
use Rattle.clap.specs.declared.error.kind.ErrorKind.TheVariants.{DisplayHelp, DisplayVersion}
use Rattle.markdown_compile_options.specs.declared.configuration.Options.{Options}
use Rattle.markdown_settings.specs.declared.help.TheConstants.{HELP, VERSION}
use Rattle.markdown_settings.specs.declared.settings_error.SettingsError.{SettingsError}
use Rattle.markdown_settings.specs.declared.settings_error.SettingsError.TheVariants.{Help, Words, Memory}
use Rattle.markdown_settings.specs.Command.{markdown_command}
use Rattle.markdown_settings.specs.Flags.{MeanRows}

-- the bytes of each word
abbrev pub word_texts : {A : Type 0} → List (String A) → List Text
word_texts words = map string_bytes words

-- the matches of the command for the words
unfoldable pub rows_of_words : List Text → List Row
rows_of_words = matches_of markdown_command

-- what the command finds wrong with them; asking for help or for the version is a fault of its own kind
unfoldable pub faults_of : List Text → Kinds
faults_of = fault_of markdown_command

-- the command takes the words
unfoldable pub takes_words : List Text → Bool
takes_words = takes markdown_command

-- options are those that words ask for
abbrev pub MeanWords : List Text → Options → Type 0
MeanWords words options = MeanRows (rows_of_words words) options

-- the file of a name; `-` is standard input, as no name is
abbrev pub named_file : Option Text → Option Text
named_file None = None
named_file (Some name) = if bytes_eq name (codes "-") then None else Some name

-- the file to read, which is the word that is no flag
abbrev pub file_of : List Text → Option Text
file_of words = named_file (first_of (codes "file") (rows_of_words words))

-- the value of `--references`
abbrev pub path_of : List Text → Option Text
path_of words = first_of (codes "references") (rows_of_words words)

-- the help or the version is asked for
abbrev pub is_request : ErrorKind → Bool
is_request DisplayHelp = true
is_request DisplayVersion = true
is_request kind = false

-- one of the faults is such a request, or one is none
abbrev pub HasFault : Kinds → Bool → Type 0
HasFault faults request = (kind : ErrorKind) × IsAmong kind faults × (is_request kind ≡ request)

-- one of the faults asks for this text: the help or the version
abbrev pub AsksFor : Kinds → Text → Type 0
AsksFor faults text = (IsAmong DisplayHelp faults × (text ≡ HELP.now)) ⊎ (IsAmong DisplayVersion faults × (text ≡ VERSION.now))

-- why words with these faults are refused
abbrev pub Refuses : Kinds → SettingsError → Type 0
Refuses faults (Help text) = AsksFor faults text.now
Refuses faults Words = HasFault faults false
Refuses faults Memory = ⊤
