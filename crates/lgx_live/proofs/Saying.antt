-- Texts put to a console, one after another.
use Rattle.std.proofs.Common.{◌≡◌, ℕ, List, [], ◌++◌, Result, Ok, Err, refl, ◌∙◌, append-nil, subst}
use Rattle.std.proofs.KnownBytes.{Appends-nil, Appends-trans}
use Rattle.lgx_io.specs.declared.sink.SinkFault.{SinkFault}
use Rattle.lgx_io.specs.declared.sink.SinkFault.TheVariants.{Memory}
use Rattle.lgx_answer.proofs.Written.{puts_part}
use Rattle.lgx_live.specs.Console.{ConsoleSeen, IsSameInput, Says, Flushes}

abbrev pub done : Result (Unit {0}) SinkFault
done = Ok tt

pub same_input : (a b c : ConsoleSeen) → IsSameInput a b → IsSameInput b c → IsSameInput a c
same_input a b c h k = record { lines = k.lines ∙ h.lines; asked = k.asked ∙ h.asked; misses = k.misses ∙ h.misses }

unfaulted : (a b : ConsoleSeen) (text : List ℕ) → Says a b text done → b.faults ≡ a.faults
unfaulted a b text h = h.puts.unfailed (λ e. absurd (cc e))

-- nothing
pub says_nothing : (a : ConsoleSeen) → Says a a [] done
says_nothing a = record {
  puts = record { whole = Appends-nil a.held; part = tt; failed = λ e. absurd (cc e); unfailed = λ e. refl };
  input = record { lines = refl; asked = refl; misses = refl };
}

-- nothing, for want of memory
pub says_none : (a : ConsoleSeen) (text : List ℕ) → Says a a text (Err Memory)
says_none a text = record {
  puts = record { whole = tt; part = (0, Appends-nil a.held); failed = λ e. absurd (cc e); unfailed = λ e. refl };
  input = record { lines = refl; asked = refl; misses = refl };
}

-- a text, and then another one
pub says_both : (a b c : ConsoleSeen) (xs ys : List ℕ) → Says a b xs done → Says b c ys done → Says a c (xs ++ ys) done
says_both a b c xs ys h k = record {
  puts = record {
    whole = Appends-trans a.held b.held c.held xs ys h.puts.whole k.puts.whole;
    part = tt;
    failed = λ e. absurd (cc e);
    unfailed = λ e. unfaulted b c ys k ∙ unfaulted a b xs h;
  };
  input = same_input a b c h.input k.input;
}

-- a text, and then one that was cut off; more was to come
pub says_cut : (fault : SinkFault) (a b c : ConsoleSeen) (xs ys zs : List ℕ) → Says a b xs done → Says b c ys (Err fault) → Says a c (xs ++ (ys ++ zs)) (Err fault)
says_cut fault a b c xs ys zs h k = record {
  puts = puts_part fault a.held b.held c.held a.faults b.faults c.faults (xs ++ (ys ++ zs)) (ys ++ zs) ys ys zs (xs, refl, h.puts.whole) (unfaulted a b xs h) refl refl k.puts;
  input = same_input a b c h.input k.input;
}

pub says_then : (r : Result (Unit {0}) SinkFault) (a b c : ConsoleSeen) (xs ys : List ℕ) → Says a b xs done → Says b c ys r → Says a c (xs ++ ys) r
says_then (Ok tt) a b c xs ys h k = says_both a b c xs ys h k
says_then (Err fault) a b c xs ys h k =
    let P : List ℕ → Type 0 = λ t. Says a c (xs ++ t) (Err fault) in
    subst P (append-nil ys) (says_cut fault a b c xs ys [] h k)

-- a text that was cut off; more was to come
pub says_less : (fault : SinkFault) (a b : ConsoleSeen) (xs ys : List ℕ) → Says a b xs (Err fault) → Says a b (xs ++ ys) (Err fault)
says_less fault a b xs ys h = says_cut fault a a b [] xs ys (says_nothing a) h

-- a text, and a flush
pub says_flushed : (r : Result (Unit {0}) SinkFault) (a b c : ConsoleSeen) (xs : List ℕ) → Says a b xs done → Flushes b c r → Says a c xs r
says_flushed r a b c xs h k =
    let P : List ℕ → Type 0 = λ t. Says a c t r in
    subst P (append-nil xs) (says_then r a b c xs [] h k.says)
