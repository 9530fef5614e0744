-- Mnemonics: the letters of each instruction, in upper case, and the instruction that letters name in any case.
use Rattle.std.specs.Prelude.{ℕ, List, [], ◌∷◌, Option, codes, find}
use Rattle.lgx_num.specs.Name.{same}
use Rattle.lgx_rung.specs.declared.op.Op.{Op}
use Rattle.lgx_rung.specs.declared.op.Op.TheVariants.{Xic, Xio, Ote, Otl, Otu, Ons, Osr, Osf, Ton, Rto, Tof, Ctu, Ctd, Res, Equ, Neq, Les, Leq, Grt, Geq, Lim, Meq, Add, Sub, Mul, Div, Mod, Neg, Abs, Mov, And, Or, Xor, Not, Mvm, Clr, Cop, Cps, Fll, Jsr, Sbr, Ret, Tnd, Jmp, Lbl, Mcr, Afi, Nop, Uid, Uie, Event}

-- the letters of each
abbrev pub text_of : Op → List ℕ
text_of Xic = codes "XIC"
text_of Xio = codes "XIO"
text_of Ote = codes "OTE"
text_of Otl = codes "OTL"
text_of Otu = codes "OTU"
text_of Ons = codes "ONS"
text_of Osr = codes "OSR"
text_of Osf = codes "OSF"
text_of Ton = codes "TON"
text_of Rto = codes "RTO"
text_of Tof = codes "TOF"
text_of Ctu = codes "CTU"
text_of Ctd = codes "CTD"
text_of Res = codes "RES"
text_of Equ = codes "EQU"
text_of Neq = codes "NEQ"
text_of Les = codes "LES"
text_of Leq = codes "LEQ"
text_of Grt = codes "GRT"
text_of Geq = codes "GEQ"
text_of Lim = codes "LIM"
text_of Meq = codes "MEQ"
text_of Add = codes "ADD"
text_of Sub = codes "SUB"
text_of Mul = codes "MUL"
text_of Div = codes "DIV"
text_of Mod = codes "MOD"
text_of Neg = codes "NEG"
text_of Abs = codes "ABS"
text_of Mov = codes "MOV"
text_of And = codes "AND"
text_of Or = codes "OR"
text_of Xor = codes "XOR"
text_of Not = codes "NOT"
text_of Mvm = codes "MVM"
text_of Clr = codes "CLR"
text_of Cop = codes "COP"
text_of Cps = codes "CPS"
text_of Fll = codes "FLL"
text_of Jsr = codes "JSR"
text_of Sbr = codes "SBR"
text_of Ret = codes "RET"
text_of Tnd = codes "TND"
text_of Jmp = codes "JMP"
text_of Lbl = codes "LBL"
text_of Mcr = codes "MCR"
text_of Afi = codes "AFI"
text_of Nop = codes "NOP"
text_of Uid = codes "UID"
text_of Uie = codes "UIE"
text_of Event = codes "EVENT"

-- every mnemonic
abbrev pub mnemonics : List Op
mnemonics =
    Xic ∷ Xio ∷ Ote ∷ Otl ∷ Otu ∷ Ons ∷ Osr ∷ Osf ∷ Ton ∷ Rto ∷ Tof ∷ Ctu ∷ Ctd ∷ Res ∷ Equ ∷ Neq ∷ Les ∷ Leq ∷ Grt ∷ Geq ∷ Lim ∷ Meq
    ∷ Add ∷ Sub ∷ Mul ∷ Div ∷ Mod ∷ Neg ∷ Abs ∷ Mov ∷ And ∷ Or ∷ Xor ∷ Not ∷ Mvm ∷ Clr ∷ Cop ∷ Cps ∷ Fll
    ∷ Jsr ∷ Sbr ∷ Ret ∷ Tnd ∷ Jmp ∷ Lbl ∷ Mcr ∷ Afi ∷ Nop ∷ Uid ∷ Uie ∷ Event ∷ []

-- the instruction that letters name, in upper or lower case
abbrev pub op_of : List ℕ → Option Op
op_of letters = find (λ op. same (text_of op) letters) mnemonics
