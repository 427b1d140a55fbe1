-- Strings that are written anew stand for the same texts.
use Rattle.std.proofs.Common.{◌≡◌, ℕ, List, sym, ap, ◌∙◌}
use Rattle.markdown_options.specs.Defaults.{default_constructs}
use Rattle.parse_alike.proofs.Prelude.{IsOfBytes, Meaning, string_text, title_text}
use Rattle.event_meaning.specs.Strings.{written}
use Rattle.event_meaning.proofs.Written.{written_text}
use Rattle.parse_alike.proofs.SpelledStrings.{each_byte}
use Rattle.parse_alike.specs.Strings.{WrittenStringsAreAlike}

-- a text that is written for what constructs of CommonMark read
text_written : (m' : Meaning) (text : List ℕ) → m'.on ≡ default_constructs → IsOfBytes text → text ≡ string_text m'.on m'.names (written text)
text_written m' text on h =
    sym (written_text m'.names text (each_byte text h)) ∙ ap (λ constructs. string_text constructs m'.names (written text)) (sym on)

pub written_strings_are_alike : WrittenStringsAreAlike
written_strings_are_alike =
    record {
      strings = λ m m' string on h. text_written m' (string_text m.on m.names string) on h;
      titles = λ m m' title on h. text_written m' (title_text m title) on h;
      targets = λ m m' destination title on h k.
          (text_written m' (string_text m.on m.names destination) on h, text_written m' (title_text m title) on k);
      definitions = λ m m' d label rest on h k same.
          (same, text_written m' (string_text m.on m.names d.destination) on h, text_written m' (title_text m d.title) on k);
    }
