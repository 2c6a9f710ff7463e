-- Examples of how lines and expressions are written.
use Rattle.std.specs.Prelude.{◌≡◌, true, false, [], ◌∷◌, Some, None}
use Rattle.ir_core.specs.declared.operands.Pred.TheVariants.{Ult}
use Rattle.module_grammar.specs.AtPlaces.{number_at, width_at, true_at, x_at, debug_at, i8_at, i1_at, int_at, const_at}
use Rattle.module_grammar.specs.Lines as write
use Rattle.module_grammar.specs.Symbols as symbol
use Rattle.module_grammar.specs.declared.attributes.FunctionAttributeText.TheVariants as function_attribute
use Rattle.module_grammar.specs.declared.attributes.MetaText.TheVariants as meta
use Rattle.module_grammar.specs.declared.attributes.ParamAttributeText.TheVariants as param_attribute
use Rattle.module_grammar.specs.declared.constants.ConstText as const
use Rattle.module_grammar.specs.declared.constants.GlobalNameText.TheVariants as global_name
use Rattle.module_grammar.specs.declared.constants.IntText.TheVariants as integer
use Rattle.module_grammar.specs.declared.constants.Tag.TheVariants.{Ghost}
use Rattle.module_grammar.specs.declared.constants.Tag.TheVariants.{Old}
use Rattle.module_grammar.specs.declared.constants.ValueText.TheVariants as value
use Rattle.module_grammar.specs.declared.lines.CallBodyText.TheVariants as call_body
use Rattle.module_grammar.specs.declared.lines.CastWord.TheVariants as cast_word
use Rattle.module_grammar.specs.declared.lines.ExprText.TheVariants as expression
use Rattle.module_grammar.specs.declared.lines.InstructionText.TheVariants as instruction
use Rattle.module_grammar.specs.declared.lines.OperationText.TheVariants as form
use Rattle.module_grammar.specs.declared.lines.OperatorText.TheVariants as operators
use Rattle.module_grammar.specs.declared.lines.VoidCallText.TheVariants as void_call
use Rattle.module_grammar.specs.declared.operators.ExactOp.TheVariants.{LShr}
use Rattle.module_grammar.specs.declared.operators.ExactOp.TheVariants.{UDiv}
use Rattle.module_grammar.specs.declared.operators.ExtensionWord.TheVariants.{Signed}
use Rattle.module_grammar.specs.declared.operators.ExtensionWord.TheVariants.{Zero}
use Rattle.module_grammar.specs.declared.operators.FlagWord.TheVariants.{Nsw}
use Rattle.module_grammar.specs.declared.operators.FlagWord.TheVariants.{Nuw}
use Rattle.module_grammar.specs.declared.operators.OverflowOp.TheVariants.{Add}
use Rattle.module_grammar.specs.declared.operators.PlainOp.TheVariants.{Xor}
use Rattle.module_grammar.specs.declared.operators.ResizeOp.TheVariants.{ZExt}
use Rattle.module_grammar.specs.declared.types.TypeText as type_text

pub record LinesAreWritten : Type 0 where
  -- `%x = add nuw nsw i8 %x, 7`
  pub add :
      write.line
      (record {
        register = Some (x_at 0 2);
        attached = record {
          instruction = instruction.Operation (form.Binary (record {
            operator = operators.Overflow Add (Nuw ∷ Nsw ∷ []);
            left = record { ty = i8_at 17 19; value = value.Local (x_at 20 22) };
            right = value.Const (const_at 7 24 25);
          }));
          attachments = [];
        };
      })
      ≡ symbol.Local (x_at 0 2) ∷ symbol.equals ∷ symbol.Overflow Add ∷ symbol.Flag Nuw ∷ symbol.Flag Nsw
      ∷ symbol.Width (width_at 8 17 19) ∷ symbol.Local (x_at 20 22) ∷ symbol.comma ∷ symbol.Numeral (number_at 7 24 25) ∷ []
  -- `lshr exact i8 7, %x`
  pub lshr :
      write.line
      (record {
        register = None;
        attached = record {
          instruction = instruction.Operation (form.Binary (record {
            operator = operators.Exact LShr true;
            left = record { ty = i8_at 11 13; value = value.Const (const_at 7 14 15) };
            right = value.Local (x_at 17 19);
          }));
          attachments = [];
        };
      })
      ≡ symbol.Exact LShr ∷ symbol.exact ∷ symbol.Width (width_at 8 11 13) ∷ symbol.Numeral (number_at 7 14 15) ∷ symbol.comma
      ∷ symbol.Local (x_at 17 19) ∷ []
  -- `%x = udiv i8 %x, 7`
  pub udiv :
      write.line
      (record {
        register = Some (x_at 0 2);
        attached = record {
          instruction = instruction.Operation (form.Binary (record {
            operator = operators.Exact UDiv false;
            left = record { ty = i8_at 10 12; value = value.Local (x_at 13 15) };
            right = value.Const (const_at 7 17 18);
          }));
          attachments = [];
        };
      })
      ≡ symbol.Local (x_at 0 2) ∷ symbol.equals ∷ symbol.Exact UDiv ∷ symbol.Width (width_at 8 10 12) ∷ symbol.Local (x_at 13 15)
      ∷ symbol.comma ∷ symbol.Numeral (number_at 7 17 18) ∷ []
  -- `%x = xor i1 %x, true`
  pub xor :
      write.line
      (record {
        register = Some (x_at 0 2);
        attached = record {
          instruction = instruction.Operation (form.Binary (record {
            operator = operators.Plain Xor;
            left = record { ty = i1_at 9 11; value = value.Local (x_at 12 14) };
            right = value.Const (const.Int (integer.Truth (true_at 16 20)));
          }));
          attachments = [];
        };
      })
      ≡ symbol.Local (x_at 0 2) ∷ symbol.equals ∷ symbol.Plain Xor ∷ symbol.Width (width_at 1 9 11) ∷ symbol.Local (x_at 12 14)
      ∷ symbol.comma ∷ symbol.Truth (true_at 16 20) ∷ []
  -- `%x = icmp ult i8* %x, null, !dbg !7`
  pub icmp :
      write.line
      (record {
        register = Some (x_at 0 2);
        attached = record {
          instruction = instruction.Operation (form.Compare (record {
            pred = Ult;
            left = record { ty = type_text.Ptr 16 (i8_at 14 16); value = value.Local (x_at 18 20) };
            right = value.Const (const.Null 22);
          }));
          attachments = meta.Named false ∷ [];
        };
      })
      ≡ symbol.Local (x_at 0 2) ∷ symbol.equals ∷ symbol.icmp ∷ symbol.Pred Ult ∷ symbol.Width (width_at 8 14 16) ∷ symbol.Star 16
      ∷ symbol.Local (x_at 18 20) ∷ symbol.comma ∷ symbol.Null 22 ∷ symbol.comma ∷ symbol.metadata ∷ symbol.metadata ∷ []
  -- `%x = zext i1 %x to i8`
  pub zext :
      write.line
      (record {
        register = Some (x_at 0 2);
        attached = record {
          instruction = instruction.Operation (form.Cast (record {
            word = cast_word.Resize ZExt;
            from = record { ty = i1_at 10 12; value = value.Local (x_at 13 15) };
            to = i8_at 19 21;
          }));
          attachments = [];
        };
      })
      ≡ symbol.Local (x_at 0 2) ∷ symbol.equals ∷ symbol.Resize ZExt ∷ symbol.Width (width_at 1 10 12) ∷ symbol.Local (x_at 13 15)
      ∷ symbol.to ∷ symbol.Width (width_at 8 19 21) ∷ []
  -- `%x = bitcast i8* %x to i1*`
  pub bitcast :
      write.line
      (record {
        register = Some (x_at 0 2);
        attached = record {
          instruction = instruction.Operation (form.Cast (record {
            word = cast_word.BitCast 5;
            from = record { ty = type_text.Ptr 15 (i8_at 13 15); value = value.Local (x_at 17 19) };
            to = type_text.Ptr 25 (i1_at 23 25);
          }));
          attachments = [];
        };
      })
      ≡ symbol.Local (x_at 0 2) ∷ symbol.equals ∷ symbol.BitCast 5 ∷ symbol.Width (width_at 8 13 15) ∷ symbol.Star 15
      ∷ symbol.Local (x_at 17 19) ∷ symbol.to ∷ symbol.Width (width_at 1 23 25) ∷ symbol.Star 25 ∷ []
  -- `%x = select i1 %x, i8 7, i8 undef`
  pub select :
      write.line
      (record {
        register = Some (x_at 0 2);
        attached = record {
          instruction = instruction.Operation (form.Select (record {
            condition = record { ty = i1_at 12 14; value = value.Local (x_at 15 17) };
            then = record { ty = i8_at 19 21; value = value.Const (const_at 7 22 23) };
            other = record { ty = i8_at 25 27; value = value.Const const.Undef };
          }));
          attachments = [];
        };
      })
      ≡ symbol.Local (x_at 0 2) ∷ symbol.equals ∷ symbol.select ∷ symbol.Width (width_at 1 12 14) ∷ symbol.Local (x_at 15 17)
      ∷ symbol.comma ∷ symbol.Width (width_at 8 19 21) ∷ symbol.Numeral (number_at 7 22 23) ∷ symbol.comma
      ∷ symbol.Width (width_at 8 25 27) ∷ symbol.undef ∷ []
  -- `%x = getelementptr i8, i8* %x`
  pub base_alone :
      write.line
      (record {
        register = Some (x_at 0 2);
        attached = record {
          instruction = instruction.Element (record {
            at = 5;
            inbounds = false;
            of = i8_at 19 21;
            base = record { ty = type_text.Ptr 25 (i8_at 23 25); value = value.Local (x_at 27 29) };
            indices = [];
          });
          attachments = [];
        };
      })
      ≡ symbol.Local (x_at 0 2) ∷ symbol.equals ∷ symbol.Element 5 ∷ symbol.Width (width_at 8 19 21) ∷ symbol.comma
      ∷ symbol.Width (width_at 8 23 25) ∷ symbol.Star 25 ∷ symbol.Local (x_at 27 29) ∷ []
  -- `%x = getelementptr inbounds %x, %x* %x, i8 0, i8 7, !dbg !7`
  pub element :
      write.line
      (record {
        register = Some (x_at 0 2);
        attached = record {
          instruction = instruction.Element (record {
            at = 5;
            inbounds = true;
            of = type_text.Named (x_at 28 30);
            base = record {
              ty = type_text.Ptr 34 (type_text.Named (x_at 32 34));
              value = value.Local (x_at 36 38);
            };
            indices = record { ty = i8_at 40 42; value = value.Const (const_at 0 43 44) }
                ∷ record { ty = i8_at 46 48; value = value.Const (const_at 7 49 50) }
                ∷ [];
          });
          attachments = meta.Named false ∷ [];
        };
      })
      ≡ symbol.Local (x_at 0 2) ∷ symbol.equals ∷ symbol.Element 5 ∷ symbol.inbounds ∷ symbol.Local (x_at 28 30) ∷ symbol.comma
      ∷ symbol.Local (x_at 32 34) ∷ symbol.Star 34 ∷ symbol.Local (x_at 36 38) ∷ symbol.comma ∷ symbol.Width (width_at 8 40 42)
      ∷ symbol.Numeral (number_at 0 43 44) ∷ symbol.comma ∷ symbol.Width (width_at 8 46 48) ∷ symbol.Numeral (number_at 7 49 50)
      ∷ symbol.comma ∷ symbol.metadata ∷ symbol.metadata ∷ []
  -- `%x = alloca i8`
  pub alloca :
      write.line
      (record {
        register = Some (x_at 0 2);
        attached = record { instruction = instruction.Alloca (record { ty = i8_at 12 14; count = None; align = None }); attachments = [] };
      })
      ≡ symbol.Local (x_at 0 2) ∷ symbol.equals ∷ symbol.alloca ∷ symbol.Width (width_at 8 12 14) ∷ []
  -- `%x = alloca i8, i8 7, align 7`
  pub counted :
      write.line
      (record {
        register = Some (x_at 0 2);
        attached = record {
          instruction = instruction.Alloca (record {
            ty = i8_at 12 14;
            count = Some (record { ty = i8_at 16 18; number = int_at 7 19 20 });
            align = Some (number_at 7 28 29);
          });
          attachments = [];
        };
      })
      ≡ symbol.Local (x_at 0 2) ∷ symbol.equals ∷ symbol.alloca ∷ symbol.Width (width_at 8 12 14) ∷ symbol.comma
      ∷ symbol.Width (width_at 8 16 18) ∷ symbol.Numeral (number_at 7 19 20) ∷ symbol.comma ∷ symbol.align
      ∷ symbol.Numeral (number_at 7 28 29) ∷ []
  -- `%x = alloca i8, align 7, !dbg !7`
  pub aligned :
      write.line
      (record {
        register = Some (x_at 0 2);
        attached = record {
          instruction = instruction.Alloca (record { ty = i8_at 12 14; count = None; align = Some (number_at 7 22 23) });
          attachments = meta.Named false ∷ [];
        };
      })
      ≡ symbol.Local (x_at 0 2) ∷ symbol.equals ∷ symbol.alloca ∷ symbol.Width (width_at 8 12 14) ∷ symbol.comma ∷ symbol.align
      ∷ symbol.Numeral (number_at 7 22 23) ∷ symbol.comma ∷ symbol.metadata ∷ symbol.metadata ∷ []
  -- `%x = load i8, i8* %x`
  pub load :
      write.line
      (record {
        register = Some (x_at 0 2);
        attached = record {
          instruction = instruction.Load (record {
            ty = i8_at 10 12;
            address = record { ty = type_text.Ptr 16 (i8_at 14 16); value = value.Local (x_at 18 20) };
            align = None;
          });
          attachments = [];
        };
      })
      ≡ symbol.Local (x_at 0 2) ∷ symbol.equals ∷ symbol.load ∷ symbol.Width (width_at 8 10 12) ∷ symbol.comma
      ∷ symbol.Width (width_at 8 14 16) ∷ symbol.Star 16 ∷ symbol.Local (x_at 18 20) ∷ []
  -- `%x = load i8, i8* %x, align 7, !dbg !7`
  pub aligned_load :
      write.line
      (record {
        register = Some (x_at 0 2);
        attached = record {
          instruction = instruction.Load (record {
            ty = i8_at 10 12;
            address = record { ty = type_text.Ptr 16 (i8_at 14 16); value = value.Local (x_at 18 20) };
            align = Some (number_at 7 28 29);
          });
          attachments = meta.Named false ∷ [];
        };
      })
      ≡ symbol.Local (x_at 0 2) ∷ symbol.equals ∷ symbol.load ∷ symbol.Width (width_at 8 10 12) ∷ symbol.comma
      ∷ symbol.Width (width_at 8 14 16) ∷ symbol.Star 16 ∷ symbol.Local (x_at 18 20) ∷ symbol.comma ∷ symbol.align
      ∷ symbol.Numeral (number_at 7 28 29) ∷ symbol.comma ∷ symbol.metadata ∷ symbol.metadata ∷ []
  -- `store i8 7, i8* %x, align 7`
  pub store :
      write.line
      (record {
        register = None;
        attached = record {
          instruction = instruction.Store (record {
            value = record { ty = i8_at 6 8; value = value.Const (const_at 7 9 10) };
            address = record { ty = type_text.Ptr 14 (i8_at 12 14); value = value.Local (x_at 16 18) };
            align = Some (number_at 7 26 27);
          });
          attachments = [];
        };
      })
      ≡ symbol.store ∷ symbol.Width (width_at 8 6 8) ∷ symbol.Numeral (number_at 7 9 10) ∷ symbol.comma
      ∷ symbol.Width (width_at 8 12 14) ∷ symbol.Star 14 ∷ symbol.Local (x_at 16 18) ∷ symbol.comma ∷ symbol.align
      ∷ symbol.Numeral (number_at 7 26 27) ∷ []
  -- `store i8 7, i8* %x, !dbg !7`
  pub marked_store :
      write.line
      (record {
        register = None;
        attached = record {
          instruction = instruction.Store (record {
            value = record { ty = i8_at 6 8; value = value.Const (const_at 7 9 10) };
            address = record { ty = type_text.Ptr 14 (i8_at 12 14); value = value.Local (x_at 16 18) };
            align = None;
          });
          attachments = meta.Named false ∷ [];
        };
      })
      ≡ symbol.store ∷ symbol.Width (width_at 8 6 8) ∷ symbol.Numeral (number_at 7 9 10) ∷ symbol.comma
      ∷ symbol.Width (width_at 8 12 14) ∷ symbol.Star 14 ∷ symbol.Local (x_at 16 18) ∷ symbol.comma ∷ symbol.metadata
      ∷ symbol.metadata ∷ []
  -- `call void @x()`
  pub call_of_void :
      write.line
      (record {
        register = None;
        attached = record {
          instruction = instruction.Call (record {
            tail = false;
            body = call_body.Void (record {
              is_stated = false;
              call = void_call.Call (x_at 10 12) (record { arguments = []; attributes = [] });
            });
          });
          attachments = [];
        };
      })
      ≡ symbol.call ∷ symbol.void ∷ symbol.Global (x_at 10 12) ∷ symbol.open_paren ∷ symbol.close_paren ∷ []
  -- `tail call void @x(i8 signext 7, i8* null) nounwind`
  pub tail_call :
      write.line
      (record {
        register = None;
        attached = record {
          instruction = instruction.Call (record {
            tail = true;
            body = call_body.Void (record {
              is_stated = false;
              call = void_call.Call
                  (x_at 15 17)
                  (record {
                    arguments = record {
                      ty = i8_at 18 20;
                      attributes = param_attribute.Extension Signed ∷ [];
                      value = value.Const (const_at 7 29 30);
                    }
                        ∷ record {
                          ty = type_text.Ptr 34 (i8_at 32 34);
                          attributes = [];
                          value = value.Const (const.Null 36);
                        }
                        ∷ [];
                    attributes = function_attribute.Word ∷ [];
                  });
            });
          });
          attachments = [];
        };
      })
      ≡ symbol.tail ∷ symbol.call ∷ symbol.void ∷ symbol.Global (x_at 15 17) ∷ symbol.open_paren ∷ symbol.Width (width_at 8 18 20)
      ∷ symbol.Extension Signed ∷ symbol.Numeral (number_at 7 29 30) ∷ symbol.comma ∷ symbol.Width (width_at 8 32 34)
      ∷ symbol.Star 34 ∷ symbol.Null 36 ∷ symbol.close_paren ∷ symbol.function_word ∷ []
  -- `%x = call i8 @x(), !dbg !7`
  pub typed_call :
      write.line
      (record {
        register = Some (x_at 0 2);
        attached = record {
          instruction = instruction.Call (record {
            tail = false;
            body = call_body.Typed
                (i8_at 10 12)
                None
                (global_name.Plain (x_at 13 15))
                (record { arguments = []; attributes = [] });
          });
          attachments = meta.Named false ∷ [];
        };
      })
      ≡ symbol.Local (x_at 0 2) ∷ symbol.equals ∷ symbol.call ∷ symbol.Width (width_at 8 10 12) ∷ symbol.Global (x_at 13 15)
      ∷ symbol.open_paren ∷ symbol.close_paren ∷ symbol.comma ∷ symbol.metadata ∷ symbol.metadata ∷ []
  -- `%x = call i8 (i8, ...) @x(i8 7)`
  pub open_call :
      write.line
      (record {
        register = Some (x_at 0 2);
        attached = record {
          instruction = instruction.Call (record {
            tail = false;
            body = call_body.Typed
                (i8_at 10 12)
                (Some (record { types = i8_at 14 16 ∷ []; is_open = true }))
                (global_name.Plain (x_at 23 25))
                (record {
                  arguments = record {
                    ty = i8_at 26 28;
                    attributes = [];
                    value = value.Const (const_at 7 29 30);
                  }
                      ∷ [];
                  attributes = [];
                });
          });
          attachments = [];
        };
      })
      ≡ symbol.Local (x_at 0 2) ∷ symbol.equals ∷ symbol.call ∷ symbol.Width (width_at 8 10 12) ∷ symbol.open_paren
      ∷ symbol.Width (width_at 8 14 16) ∷ symbol.comma ∷ symbol.dots ∷ symbol.close_paren ∷ symbol.Global (x_at 23 25)
      ∷ symbol.open_paren ∷ symbol.Width (width_at 8 26 28) ∷ symbol.Numeral (number_at 7 29 30) ∷ symbol.close_paren ∷ []
  -- `call ccc void (...) @x()`
  pub ccc_call :
      write.line
      (record {
        register = None;
        attached = record {
          instruction = instruction.Call (record {
            tail = false;
            body = call_body.Convention
                []
                (record {
                  result = None;
                  called = Some (record { types = []; is_open = true });
                  name = global_name.Plain (x_at 20 22);
                })
                (record { arguments = []; attributes = [] });
          });
          attachments = [];
        };
      })
      ≡ symbol.call ∷ symbol.ccc ∷ symbol.void ∷ symbol.open_paren ∷ symbol.dots ∷ symbol.close_paren ∷ symbol.Global (x_at 20 22)
      ∷ symbol.open_paren ∷ symbol.close_paren ∷ []
  -- `%x = call zeroext i8 @x()`
  pub attribute_call :
      write.line
      (record {
        register = Some (x_at 0 2);
        attached = record {
          instruction = instruction.Call (record {
            tail = false;
            body = call_body.Attributes
                (param_attribute.Extension Zero)
                []
                (record {
                  result = Some (i8_at 18 20);
                  called = None;
                  name = global_name.Plain (x_at 21 23);
                })
                (record { arguments = []; attributes = [] });
          });
          attachments = [];
        };
      })
      ≡ symbol.Local (x_at 0 2) ∷ symbol.equals ∷ symbol.call ∷ symbol.Extension Zero ∷ symbol.Width (width_at 8 18 20)
      ∷ symbol.Global (x_at 21 23) ∷ symbol.open_paren ∷ symbol.close_paren ∷ []
  -- `call void (i8, ...) @x(i8 7)`
  pub stated_call :
      write.line
      (record {
        register = None;
        attached = record {
          instruction = instruction.Call (record {
            tail = false;
            body = call_body.Void (record {
              is_stated = true;
              call = void_call.Call
                  (x_at 20 22)
                  (record {
                    arguments = record {
                      ty = i8_at 23 25;
                      attributes = [];
                      value = value.Const (const_at 7 26 27);
                    }
                        ∷ [];
                    attributes = [];
                  });
            });
          });
          attachments = [];
        };
      })
      ≡ symbol.call ∷ symbol.void ∷ symbol.open_paren ∷ symbol.balanced ∷ symbol.close_paren ∷ symbol.Global (x_at 20 22)
      ∷ symbol.open_paren ∷ symbol.Width (width_at 8 23 25) ∷ symbol.Numeral (number_at 7 26 27) ∷ symbol.close_paren ∷ []
  -- `call void @llvm.dbg.x(metadata i8 7), !dbg !7`
  pub debug_call :
      write.line
      (record {
        register = None;
        attached = record {
          instruction = instruction.Call (record {
            tail = false;
            body = call_body.Void (record { is_stated = false; call = void_call.Debug (debug_at 10 21) [] });
          });
          attachments = meta.Named false ∷ [];
        };
      })
      ≡ symbol.call ∷ symbol.void ∷ symbol.Debug (debug_at 10 21) ∷ symbol.open_paren ∷ symbol.balanced ∷ symbol.close_paren
      ∷ symbol.comma ∷ symbol.metadata ∷ symbol.metadata ∷ []
  -- `tail call void (metadata) @llvm.dbg.x(metadata !{})`
  pub stated_debug_call :
      write.line
      (record {
        register = None;
        attached = record {
          instruction = instruction.Call (record {
            tail = true;
            body = call_body.Void (record { is_stated = true; call = void_call.Debug (debug_at 26 37) [] });
          });
          attachments = [];
        };
      })
      ≡ symbol.tail ∷ symbol.call ∷ symbol.void ∷ symbol.open_paren ∷ symbol.balanced ∷ symbol.close_paren
      ∷ symbol.Debug (debug_at 26 37) ∷ symbol.open_paren ∷ symbol.balanced ∷ symbol.close_paren ∷ []
  -- `i8 old %x`
  pub operand_alone :
      write.expression
      (expression.Plain (record { ty = i8_at 0 2; value = value.Tagged Old (x_at 7 9) }))
      ≡ symbol.Width (width_at 8 0 2) ∷ symbol.old ∷ symbol.Local (x_at 7 9) ∷ []
  -- `load i8, i8* ghost %x, align 7`
  pub expression_load :
      write.expression
      (expression.Load (record {
        ty = i8_at 5 7;
        address = record { ty = type_text.Ptr 11 (i8_at 9 11); value = value.Tagged Ghost (x_at 19 21) };
        align = Some (number_at 7 29 30);
      }))
      ≡ symbol.load ∷ symbol.Width (width_at 8 5 7) ∷ symbol.comma ∷ symbol.Width (width_at 8 9 11) ∷ symbol.Star 11 ∷ symbol.ghost
      ∷ symbol.Local (x_at 19 21) ∷ symbol.comma ∷ symbol.align ∷ symbol.Numeral (number_at 7 29 30) ∷ []
  -- `getelementptr i8, i8* %x, i8 7`
  pub expression_element :
      write.expression
      (expression.Element (record {
        at = 0;
        inbounds = false;
        of = i8_at 14 16;
        base = record { ty = type_text.Ptr 20 (i8_at 18 20); value = value.Local (x_at 22 24) };
        indices = record { ty = i8_at 26 28; value = value.Const (const_at 7 29 30) } ∷ [];
      }))
      ≡ symbol.Element 0 ∷ symbol.Width (width_at 8 14 16) ∷ symbol.comma ∷ symbol.Width (width_at 8 18 20) ∷ symbol.Star 20
      ∷ symbol.Local (x_at 22 24) ∷ symbol.comma ∷ symbol.Width (width_at 8 26 28) ∷ symbol.Numeral (number_at 7 29 30) ∷ []
