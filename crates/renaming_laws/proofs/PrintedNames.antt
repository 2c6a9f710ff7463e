-- A printed name is read as that name.
use Rattle.std.proofs.Common.{◌≡◌, ◌∙◌, ℕ, List, [], ◌∷◌, map, Some, Ok, Err, refl, ap, subst}
use Rattle.ir_lexer.specs.Cut.{Cut, Placed, cut}
use Rattle.ir_types.specs.declared.names.Name.{Name}
use Rattle.ir_types.specs.declared.names.Sigil.{Sigil}
use Rattle.ir_types.specs.declared.names.Sigil.TheVariants.{Local, Global}
use Rattle.expression_reader.specs.Names.{SpellsName, said_name}
use Rattle.expression_reader.proofs.NameTexts.{names_are_one}
use Rattle.ir_printer.specs.ExpressionPrinter.Printed.{printed_name}
use Rattle.printed_tokens.proofs.ReadTexts.{Stops, whole}
use Rattle.printed_tokens.proofs.ReadTexts as reads
use Rattle.printed_tokens.proofs.TokenWords.{Seen, name_kind, seen_cut, seen_in, tokens_of}
use Rattle.printed_tokens.proofs.TokenWords as kinds
use Rattle.hint_format.proofs.Readings.{name_read}
use Rattle.renaming_laws.specs.HintLaws.{PrintedNamesAreRead, PrintedNamesAreApart, PrintedNamesAreKeys}

said : (sigil : Sigil) (n : Name) → said_name sigil (name_kind sigil n) ≡ Some n
said Local n = refl
said Global n = refl

module _ (sigil : Sigil) (bytes : List ℕ) (n : Name) where
  of_tokens : (tokens : List Placed) → cut 0 0 bytes ≡ Ok tokens → map (seen_in bytes) tokens ≡ kinds.name sigil n ∷ [] → SpellsName sigil bytes n
  of_tokens [] is seen = cc
  of_tokens (t ∷ []) is seen =
      let head : seen_in bytes t ≡ kinds.name sigil n = cc in
      let kind : t.kind ≡ name_kind sigil n = ap (λ (s : Seen). s.0) head in
      record { token = t; cut = is; says = ap (said_name sigil) kind ∙ said sigil n }
  of_tokens (t ∷ u ∷ more) is seen = cc

  some_is : (a b : List Seen) → Some a ≡ Some b → a ≡ b
  some_is a b e = cc

  of_cut : (c : Cut) → cut 0 0 bytes ≡ c → seen_cut bytes c ≡ Some (kinds.name sigil n ∷ []) → SpellsName sigil bytes n
  of_cut (Ok tokens) is seen = of_tokens tokens is (some_is (map (seen_in bytes) tokens) (kinds.name sigil n ∷ []) seen)
  of_cut (Err fault) is seen = cc

  name_spelled : tokens_of bytes ≡ Some (kinds.name sigil n ∷ []) → SpellsName sigil bytes n
  name_spelled seen = of_cut (cut 0 0 bytes) refl seen

pub printed_names_are_read : PrintedNamesAreRead
printed_names_are_read sigil name writable =
    name_spelled sigil (printed_name sigil name) name (whole Stops (printed_name sigil name) (kinds.name sigil name ∷ []) refl (reads.name sigil name writable))

pub printed_names_are_apart : PrintedNamesAreApart
printed_names_are_apart sigil a b a_writable b_writable same =
    names_are_one sigil (printed_name sigil b) a b
    (subst (λ bytes. SpellsName sigil bytes a) same (printed_names_are_read sigil a a_writable))
    (printed_names_are_read sigil b b_writable)

pub printed_names_are_keys : PrintedNamesAreKeys
printed_names_are_keys leaves are sigil name writable short =
    let text = printed_name sigil name in
    name_read leaves are sigil text name short (printed_names_are_read sigil name writable, refl)
