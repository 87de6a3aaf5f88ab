-- RULES, A change of the battery: a guard "is written to a record before it is switched off, or after every tell, and read back from it afterwards", and "the outcomes told so far are those told before a change and after it". A run of one guard on a table: outcomes told and changes of the battery, in any order and any number.
use Rattle.std.specs.Prelude.{◌≡◌, List, [], ◌∷◌, ℕ, ◌-◌, length, take, drop, ⊤, Result, Ok}
use Rattle.layout.specs.declared.Refused.{Refused}
use Rattle.meaning.specs.Longest.{longest}
use Rattle.guard.specs.declared.Guard.{Guard}
use Rattle.guard.specs.Guard.{ToldAs}
use Rattle.carry.specs.Bytes.{old_version, old_carried, carried, record_of}
use Rattle.carry.specs.Write.{RecordWrittenAs}
use Rattle.carry.specs.Read.{guard_in, ReadBackAs}

-- one change: the guard is written with the set's bytes, to whatever buffer has room, and as many bytes as the writer says are read back
pub record Changed (set b : List ℕ) (g : Guard) (r : Result Guard Refused) : Type 0 where
  pub out : List ℕ
  pub out' : List ℕ
  pub size : ℕ
  pub written : RecordWrittenAs longest carried g set out out' (Ok size)
  pub back : ReadBackAs longest carried (take size out') b r

pub data Event : Type 0 where
  tells : (byte : ℕ) → Event
  changes : Event

-- from guard g through the events to guard h, each as its promises allow. (An ask gives the guard back unchanged, so asks may stand anywhere between.)
abbrev pub Through : (set b : List ℕ) → Guard → List Event → Guard → Type 0
Through set b g [] h = h ≡ g
Through set b g (tells byte ∷ events) h = (r : Result ⊤ Refused) × (g' : Guard) × ToldAs b g byte r g' × Through set b g' events h
Through set b g (changes ∷ events) h = (r : Result Guard Refused) × Changed set b g r × Through set b (guard_in r) events h

-- the bytes told, refused ones too
abbrev pub told_in : List Event → List ℕ
told_in [] = []
told_in (tells byte ∷ events) = byte ∷ told_in events
told_in (changes ∷ events) = told_in events

-- RULES, A change of the battery: "A record of version 1 was written by a library whose guards held 11 outcomes": the last of those that this guard holds, with its count and whether it is lost
abbrev pub with_last : (k : ℕ) → Guard → Guard
with_last k g = record { state = g.state; lost = g.lost; outcomes = drop (length g.outcomes - k) g.outcomes; count = g.count }

abbrev pub old_record_of : (set : List ℕ) → Guard → List ℕ
old_record_of set g = record_of old_version old_carried set (with_last old_carried g)

-- two guards that differ in the outcomes that they hold at the most
pub record Alike (g g' : Guard) : Type 0 where
  pub state : g.state ≡ g'.state
  pub lost : g.lost ≡ g'.lost
  pub count : g.count ≡ g'.count
