-- What a state and a machine in memory are.
use Rattle.std.specs.Prelude.{take}
use Rattle.steps.specs.declared.machine.Machine.{Machine}
use Rattle.steps.specs.declared.state.State.{State}
use Rattle.steps.specs.Machines as model
use Rattle.steps.specs.Runs as runs
use Rattle.stack.specs.Stacks.{held}

-- the figures' amounts and the clock
abbrev pub state_of : State → runs.State
state_of s = record { figures = take s.count s.amounts; clock = s.clock }

-- the stack too
abbrev pub machine_of : Machine → model.Machine
machine_of m = record { stack = held m.stack; figures = take m.state.count m.state.amounts; clock = m.state.clock }
