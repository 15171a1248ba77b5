use Rattle.std.proofs.Common.{◌≡◌, ◌-◌, ◌<◌, length, get_or, sym, ap, arith, rules}
use Rattle.std.specs.declared.collections.VecDeque.{VecDeque}
use Rattle.ks_chunks.specs.declared.chunk.TheConstants.{FULL}
use Rattle.ks_chunks.proofs.ChunkLemmas.{room_is, room_none}
use Rattle.ks_chunks.proofs.sequence.ends_empty.Goals as goal

pub returns-in-Some-clause-yes : goal.returns-in-Some-clause-yes
returns-in-Some-clause-yes g c = λ yes.
    let chunks = c.args.chunks.now in
    let last = c.in-Some.last.now in
    let some : 0 < length chunks = search rules in
    let is : last ≡ get_or chunks (length chunks - 1) last = search rules in
    let none : length last.items ≡ 0 = search rules in
    let all = room_is FULL chunks (length chunks - 1) last c.requires (omega (arith, some)) in
    let there = ap (λ (c : VecDeque _ _). FULL - length c.items) (sym is) in
    omega (arith, all, there, none)

pub returns-in-Some-clause-no : goal.returns-in-Some-clause-no
returns-in-Some-clause-no g c = λ no.
    let chunks = c.args.chunks.now in
    let last = c.in-Some.last.now in
    let some : 0 < length chunks = search rules in
    let is : last ≡ get_or chunks (length chunks - 1) last = search rules in
    let filled : 0 < length last.items = search rules in
    let all = room_is FULL chunks (length chunks - 1) last c.requires (omega (arith, some)) in
    let there = ap (λ (c : VecDeque _ _). FULL - length c.items) (sym is) in
    omega (arith, all, there, filled)

pub returns-in-None-clause-no : goal.returns-in-None-clause-no
returns-in-None-clause-no g c = λ no.
    let none = room_none FULL c.args.chunks.now (search rules) in
    omega (arith, none)
