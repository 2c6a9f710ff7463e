-- What is made of a part and of what stands behind it.
use Rattle.std.specs.Prelude.{ℕ, true, List, [], ◌∷◌, Option, Some, None}
use Rattle.ir_types.specs.declared.names.Name.{Name}
use Rattle.module_grammar.specs.declared.commas.AlignBehindText.{AlignBehindText}
use Rattle.module_grammar.specs.declared.commas.CountBehindText.{CountBehindText}
use Rattle.module_grammar.specs.declared.commas.EntriesBehindText.{EntriesBehindText}
use Rattle.module_grammar.specs.declared.commas.IndicesBehindText.{IndicesBehindText}
use Rattle.module_grammar.specs.declared.commas.NextAlignText.{NextAlignText}
use Rattle.module_grammar.specs.declared.commas.NextAlignText.TheVariants as next_align
use Rattle.module_grammar.specs.declared.commas.NextCountText.{NextCountText}
use Rattle.module_grammar.specs.declared.commas.NextCountText.TheVariants as next_count
use Rattle.module_grammar.specs.declared.commas.NextEntryText.{NextEntryText}
use Rattle.module_grammar.specs.declared.commas.NextEntryText.TheVariants as next_entry
use Rattle.module_grammar.specs.declared.commas.NextIndexText.{NextIndexText}
use Rattle.module_grammar.specs.declared.commas.NextIndexText.TheVariants as next_index
use Rattle.module_grammar.specs.declared.flow.BehindText.{BehindText}
use Rattle.module_grammar.specs.declared.flow.BehindText.TheVariants as behind_text
use Rattle.module_grammar.specs.declared.flow.BodyText.{BodyText}
use Rattle.module_grammar.specs.declared.functions.DeclaredText.{DeclaredText}
use Rattle.module_grammar.specs.declared.functions.NextDeclaredText.{NextDeclaredText}
use Rattle.module_grammar.specs.declared.functions.NextDeclaredText.TheVariants as next_declared
use Rattle.module_grammar.specs.declared.places.Placed.{Placed}
use Rattle.module_grammar.specs.declared.types.CalledText.{CalledText}
use Rattle.module_grammar.specs.declared.types.NextCalledText.{NextCalledText}
use Rattle.module_grammar.specs.declared.types.NextCalledText.TheVariants as next_called
use Rattle.module_grammar.specs.declared.types.TypeText.{TypeText, Ptr}

-- the pointers to a type that stars behind it make, the first one first
abbrev pub pointers_to : TypeText → List ℕ → TypeText
pointers_to t [] = t
pointers_to t (at ∷ more) = pointers_to (Ptr at t) more

abbrev pub called_from : NextCalledText → CalledText
called_from next_called.Open = record { types = []; is_open = true }
called_from (next_called.Type t more) = record { types = t ∷ more.types; is_open = more.is_open }

abbrev pub declared_from : NextDeclaredText → DeclaredText
declared_from next_declared.Open = record { params = []; is_open = true }
declared_from (next_declared.Param p more) = record { params = p ∷ more.params; is_open = more.is_open }

abbrev pub align_from : NextAlignText → AlignBehindText
align_from (next_align.Align n more) = record { align = Some n; attachments = more }
align_from (next_align.Attachment first others) = record { align = None; attachments = first ∷ others }

abbrev pub count_from : NextCountText → CountBehindText
count_from (next_count.Count c b) = record { count = Some c; behind = b }
count_from (next_count.Other x) = record { count = None; behind = align_from x }

abbrev pub indices_from : NextIndexText → IndicesBehindText
indices_from (next_index.Index o more) = record { indices = o ∷ more.indices; attachments = more.attachments }
indices_from (next_index.Attachment first others) = record { indices = []; attachments = first ∷ others }

abbrev pub entries_from : NextEntryText → EntriesBehindText
entries_from (next_entry.Entry e more) = record { entries = e ∷ more.entries; attachments = more.attachments }
entries_from (next_entry.Attachment first others) = record { entries = []; attachments = first ∷ others }

-- what stands before a terminator, of which the first register is written apart: phi nodes and lines begin alike
abbrev pub with_register : Option (Placed Name) → BehindText → BodyText
with_register register (behind_text.Phi node body) = record { phis = record { register = register; node = node } ∷ body.phis; lines = body.lines }
with_register register (behind_text.Line attached lines) = record { phis = []; lines = record { register = register; attached = attached } ∷ lines }
