use Rattle.std.proofs.Common.{◌≡◌, ◌++◌, OnOk, string_bytes, subst}
use Rattle.definition_text.specs.Encode.{encode}
use Rattle.definition_inline.specs.Strings.{string_text}
use Rattle.text_pieces.proofs.InLine.{plain_codes}
use Rattle.html_contents.proofs.texts.Texts.push_info.Goals as goal

-- src/texts.rt:84:5
pub returns : goal.returns
returns g c ds clear =
    subst
    (λ info.
    OnOk c.push_encoded_string.result
    (string_bytes c.push_encoded_string.new.out ≡ string_bytes c.args.out.now
    ++ encode (string_text c.args.self.now.options.now.parse.constructs (g.T.Tables.reference_of c.args.self.now.tables.now) info)))
    (plain_codes c.args.info.now clear) c.push_encoded_string.ensures
