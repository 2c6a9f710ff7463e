-- Examples of how phi nodes, terminators and blocks are written.
use Rattle.std.specs.Prelude.{◌≡◌, false, [], ◌∷◌, Some, None}
use Rattle.module_grammar.specs.AtPlaces.{number_at, width_at, true_at, x_at, i8_at, i1_at, int_at, const_at}
use Rattle.module_grammar.specs.Flow as write
use Rattle.module_grammar.specs.Symbols as symbol
use Rattle.module_grammar.specs.declared.attributes.MetaText.TheVariants as meta
use Rattle.module_grammar.specs.declared.constants.ConstText as const
use Rattle.module_grammar.specs.declared.constants.IntText.TheVariants as integer
use Rattle.module_grammar.specs.declared.constants.ValueText.TheVariants as value
use Rattle.module_grammar.specs.declared.flow.BranchText.TheVariants as branch_text
use Rattle.module_grammar.specs.declared.flow.TermText.TheVariants as term_text
use Rattle.module_grammar.specs.declared.lines.InstructionText.TheVariants as instruction
use Rattle.module_grammar.specs.declared.types.TypeText as type_text

pub record BlocksAreWritten : Type 0 where
  -- `phi i8 [ 7, %x ], [ undef, %x ], !dbg !7`
  pub phi :
      write.node
      (record {
        ty = i8_at 4 6;
        first = record { at = 7; value = value.Const (const_at 7 9 10); from = x_at 12 14 };
        others = record { at = 18; value = value.Const const.Undef; from = x_at 27 29 } ∷ [];
        attachments = meta.Named false ∷ [];
      })
      ≡ symbol.phi ∷ symbol.Width (width_at 8 4 6) ∷ symbol.Bracket 7 ∷ symbol.Numeral (number_at 7 9 10) ∷ symbol.comma
      ∷ symbol.Local (x_at 12 14) ∷ symbol.close_bracket ∷ symbol.comma ∷ symbol.Bracket 18 ∷ symbol.undef ∷ symbol.comma
      ∷ symbol.Local (x_at 27 29) ∷ symbol.close_bracket ∷ symbol.comma ∷ symbol.metadata ∷ symbol.metadata ∷ []
  -- `phi i8* [ null, %x ]`
  pub one_entry :
      write.node
      (record {
        ty = type_text.Ptr 6 (i8_at 4 6);
        first = record { at = 8; value = value.Const (const.Null 10); from = x_at 16 18 };
        others = [];
        attachments = [];
      })
      ≡ symbol.phi ∷ symbol.Width (width_at 8 4 6) ∷ symbol.Star 6 ∷ symbol.Bracket 8 ∷ symbol.Null 10 ∷ symbol.comma
      ∷ symbol.Local (x_at 16 18) ∷ symbol.close_bracket ∷ []
  -- `ret void`
  pub ret_void : write.end (record { term = term_text.Ret None; attachments = [] }) ≡ symbol.ret ∷ symbol.void ∷ []
  -- `ret i8 7, !dbg !7`
  pub ret :
      write.end
      (record {
        term = term_text.Ret (Some (record { ty = i8_at 4 6; value = value.Const (const_at 7 7 8) }));
        attachments = meta.Named false ∷ [];
      })
      ≡ symbol.ret ∷ symbol.Width (width_at 8 4 6) ∷ symbol.Numeral (number_at 7 7 8) ∷ symbol.comma ∷ symbol.metadata
      ∷ symbol.metadata ∷ []
  -- `br label %x`
  pub br :
      write.end
      (record { term = term_text.Br (branch_text.Always (x_at 9 11)); attachments = [] })
      ≡ symbol.br ∷ symbol.label ∷ symbol.Local (x_at 9 11) ∷ []
  -- `br i1 true, label %x, label %x`
  pub br_if :
      write.end
      (record {
        term = term_text.Br (branch_text.Condition (record {
          condition = record { ty = i1_at 3 5; value = value.Const (const.Int (integer.Truth (true_at 6 10))) };
          on_true = x_at 18 20;
          on_false = x_at 28 30;
        }));
        attachments = [];
      })
      ≡ symbol.br ∷ symbol.Width (width_at 1 3 5) ∷ symbol.Truth (true_at 6 10) ∷ symbol.comma ∷ symbol.label
      ∷ symbol.Local (x_at 18 20) ∷ symbol.comma ∷ symbol.label ∷ symbol.Local (x_at 28 30) ∷ []
  -- `switch i8 %x, label %x [ i8 7, label %x ]`
  pub switch :
      write.end
      (record {
        term = term_text.Switch (record {
          value = record { ty = i8_at 7 9; value = value.Local (x_at 10 12) };
          default = x_at 20 22;
          at = 23;
          cases = record { ty = i8_at 25 27; number = int_at 7 28 29; label = x_at 37 39 } ∷ [];
        });
        attachments = [];
      })
      ≡ symbol.switch ∷ symbol.Width (width_at 8 7 9) ∷ symbol.Local (x_at 10 12) ∷ symbol.comma ∷ symbol.label
      ∷ symbol.Local (x_at 20 22) ∷ symbol.Bracket 23 ∷ symbol.Width (width_at 8 25 27) ∷ symbol.Numeral (number_at 7 28 29)
      ∷ symbol.comma ∷ symbol.label ∷ symbol.Local (x_at 37 39) ∷ symbol.close_bracket ∷ []
  -- `unreachable`
  pub unreachable : write.end (record { term = term_text.Unreachable; attachments = [] }) ≡ symbol.unreachable ∷ []
  -- `ret void`
  pub unlabelled :
      write.block
      (record { label = None; body = record { phis = []; lines = [] }; end = record { term = term_text.Ret None; attachments = [] } })
      ≡ symbol.ret ∷ symbol.void ∷ []
  -- `x: %x = phi i8 [ 7, %x ] store i8 %x, i8* null unreachable`
  pub block :
      write.block
      (record {
        label = Some (x_at 0 2);
        body = record {
          phis = record {
            register = Some (x_at 3 5);
            node = record {
              ty = i8_at 12 14;
              first = record { at = 15; value = value.Const (const_at 7 17 18); from = x_at 20 22 };
              others = [];
              attachments = [];
            };
          }
              ∷ [];
          lines = record {
            register = None;
            attached = record {
              instruction = instruction.Store (record {
                value = record { ty = i8_at 31 33; value = value.Local (x_at 34 36) };
                address = record {
                  ty = type_text.Ptr 40 (i8_at 38 40);
                  value = value.Const (const.Null 42);
                };
                align = None;
              });
              attachments = [];
            };
          }
              ∷ [];
        };
        end = record { term = term_text.Unreachable; attachments = [] };
      })
      ≡ symbol.Label (x_at 0 2) ∷ symbol.Local (x_at 3 5) ∷ symbol.equals ∷ symbol.phi ∷ symbol.Width (width_at 8 12 14)
      ∷ symbol.Bracket 15 ∷ symbol.Numeral (number_at 7 17 18) ∷ symbol.comma ∷ symbol.Local (x_at 20 22) ∷ symbol.close_bracket
      ∷ symbol.store ∷ symbol.Width (width_at 8 31 33) ∷ symbol.Local (x_at 34 36) ∷ symbol.comma ∷ symbol.Width (width_at 8 38 40)
      ∷ symbol.Star 40 ∷ symbol.Null 42 ∷ symbol.unreachable ∷ []
