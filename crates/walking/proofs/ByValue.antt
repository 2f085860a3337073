-- The types that are passed by value: words, truth values, nothing, and every declared struct and enum of such. Assumes `Logic`.
use mathlib.Core.Path.{refl}
use seplogic.Ra.Ura.{Ura}
use mir.Syntax.{w32, w64, ty_int, ty_bool, ty_unit}
use mir.Val.{vint, vbool, vunit}
use types.Logic.{Logic}
use denote.Exit.{yes}
use denote.Memory.{lone}
use denote.Builtin.{usize, u32, bool, unit}
use denote.Plain.{uint_Tells, uint_Makes, bool_Tells, bool_Makes, Nothing-Tells, Nothing-Makes}
use denote.Struct.Struct.{Plains}
use denote.Struct.Declared as Struct
use denote.Struct.Laws as StructLaws
use denote.Enum.Enum.{Few, Plainss}
use denote.Enum.Declared as Enum
use denote.Enum.Laws as EnumLaws
use Rattle.walking.proofs.Lends.{Kind}

module _ {M : Type 1} {𝓤 : Ura M} (𝓛 : Logic 𝓤) where
  abbrev pub a_u32 : Kind 𝓛
  a_u32 = record { row = u32; mir = ty_int w32; one = refl; val = vint w32; tells = uint_Tells w32; makes = uint_Makes 𝓛 w32; typed = λ x is. (tt, record { fits = is.1 }); still = refl }

  abbrev pub a_usize : Kind 𝓛
  a_usize = record { row = usize; mir = ty_int w64; one = refl; val = vint w64; tells = uint_Tells w64; makes = uint_Makes 𝓛 w64; typed = λ x is. (tt, record { fits = is.1 }); still = refl }

  abbrev pub a_bool : Kind 𝓛
  a_bool = record { row = bool; mir = ty_bool; one = refl; val = vbool; tells = bool_Tells; makes = bool_Makes 𝓛; typed = λ x is. (tt, tt); still = refl }

  abbrev pub a_unit : Kind 𝓛
  a_unit = record { row = unit; mir = ty_unit; one = refl; val = λ _. vunit; tells = Nothing-Tells; makes = Nothing-Makes 𝓛; typed = λ x is. (tt, tt); still = refl }

  abbrev pub a_struct : (T : Struct.Declared) (L : StructLaws.Laws T) → Plains (Struct.fields T) → StructLaws.Copyables T.parts → Kind 𝓛
  a_struct T L plain copy = record {
    row = Struct.row T;
    mir = lone (Struct.row T).mir;
    one = refl;
    val = StructLaws.val T L;
    tells = StructLaws.tells T L;
    makes = StructLaws.makes T plain 𝓛;
    typed = λ x is. ((StructLaws.lawful T L 𝓛).typed x _ is).0;
    still = StructLaws.still T copy yes;
  }

  abbrev pub an_enum : (T : Enum.Declared) (L : EnumLaws.Laws T) → Few (Enum.shape T) → Plainss (Enum.variants T) → EnumLaws.Copyabless T.parts → Kind 𝓛
  an_enum T L few plain copy = record {
    row = Enum.row T;
    mir = lone (Enum.row T).mir;
    one = refl;
    val = EnumLaws.val T L;
    tells = EnumLaws.tells T L;
    makes = EnumLaws.makes T plain 𝓛;
    typed = λ x is. ((EnumLaws.lawful T L 𝓛 few).typed x _ is).0;
    still = EnumLaws.still T copy yes;
  }
