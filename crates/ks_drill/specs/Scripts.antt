-- Scripts of calls to one machine: each call is made after the front that those before it left, and from what they replied.
use Rattle.std.specs.Prelude.{◌≡◌, ℕ, ◌+◌, false, List, replicate, Option}
use Rattle.std.specs.Int.{to_be_bytes, w64}
use Rattle.std.specs.List.{concat}
use Rattle.ks_base.specs.declared.receipt.Drawn.{Drawn}
use Rattle.ks_base.specs.declared.receipt.Drawn.TheVariants.{Bytes}
use Rattle.ks_base.specs.Rows.{Text}
use Rattle.ks_machine.specs.declared.call.Call.{Call}
use Rattle.ks_machine.specs.declared.call.FolderRead.TheVariants as folder
use Rattle.ks_machine.specs.declared.command.Command.{Command}
use Rattle.ks_machine.specs.declared.reply.Reply.{Reply}
use Rattle.ks_machine.specs.Actions.{requirements}
use Rattle.ks_machine.specs.Fit.{AreFields}
use Rattle.ks_machine.specs.Fronts.{Front, after, answer}

-- | a machine after some calls: its front, and how many calls there were
pub record Stage : Type 0 where
  pub front : Front
  pub calls : ℕ

-- the front, of which it is not said how many changes are kept
abbrev pub bare : Front → Front
bare front = record front { kept = 0 }

-- | what is done from a stage on: the stage that it leaves, and what came of it
abbrev pub Script : Type 0 → Type 0
Script A = Stage → Stage × A

-- nothing is asked
abbrev pub done : {A : Type 0} → A → Script A
done a = λ stage. (stage, a)

-- the second by what came of the first
infixl 10 ◌>>=◌
abbrev pub ◌>>=◌ : {A B : Type 0} → Script A → (A → Script B) → Script B
first >>= second = λ stage. second (first stage).1 (first stage).0

-- every call reads this of the clock
abbrev pub reading : ℕ
reading = 1000000

-- the 64 random bytes of a call: its number in 8 bytes, the highest first, eight times
unfoldable pub draw_of : ℕ → Drawn
draw_of number = Bytes (concat (replicate 8 (to_be_bytes w64 number)))

-- the call of a number, which it has as its random bytes
abbrev pub call_of : ℕ → Command → Option Text → Option Text → Call
call_of number command caller subject = record {
  command = command;
  caller = caller;
  subject = subject;
  reading = reading;
  draw = draw_of number;
  folder = folder.Unused;
}

-- | the next call, which is numbered from 1: the plain machine's reply, and its front after that
unfoldable pub asks : Command → Option Text → Option Text → Script Reply
asks command caller subject = λ stage. (
  record { front = after stage.front (call_of (stage.calls + 1) command caller subject); calls = stage.calls + 1 },
  answer stage.front (call_of (stage.calls + 1) command caller subject),
)

-- a command whose fields have their ranges, and which asks for no folder of keys
pub record IsAskable (command : Command) : Type 0 where
  pub fields : AreFields command
  pub loads : (requirements command).loads ≡ false
