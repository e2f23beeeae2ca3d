-- What the real devices show of themselves: the size of what is open, and their counts.
use Rattle.std.specs.Prelude.{ℕ, Bool, ◌^◌, ◌<◌, ◌-◌, min, List, Option, None, Some}
use Rattle.std.proofs.Common.{lit<, arith}
use Rattle.std.specs.declared.io.traits.Write.{Ghosts}
use Rattle.std.specs.Io.KnownBytes.{append_known}
use Rattle.dump_io.specs.Count.{number_in}
use Rattle.dump_io.specs.Dumps.{DeviceState, Now, closed, sized, size_of}
use Rattle.dump_io.specs.Sinks.{SinkState}
use Rattle.host_devices.specs.declared.file_dumps.OpenDump.{OpenDump}
use Rattle.host_devices.specs.declared.file_dumps.FileDumps.{FileDumps}
use Rattle.host_devices.specs.declared.std_sink.StdSink.{StdSink}

-- of a file of the machine only the size is told
abbrev pub now_in : Option OpenDump → Now
now_in None = closed
now_in (Some dump) = sized (min dump.size (2 ^ 64 - 1))

pub now_in-small : (dump : Option OpenDump) → size_of (now_in dump) < 2 ^ 64
now_in-small None = lit< tt
now_in-small (Some dump) = omega arith

-- what is open
abbrev pub now_of : FileDumps → Now
now_of dumps = now_in dumps.«open»

-- how often the device has failed
abbrev pub faults_of : FileDumps → ℕ
faults_of dumps = number_in dumps.faults

-- the state of the machine's files: the device tells none of them
abbrev pub state_of : FileDumps → DeviceState
state_of dumps = record { files = None; now = now_of dumps; faults = faults_of dumps; taken = number_in dumps.taken }

-- how often a stream has failed
abbrev pub count_of : {W : Type 0} {w : Ghosts W} → StdSink W w → ℕ
count_of sink = number_in sink.faults

-- the state of such a sink: it doesn't tell what was written
abbrev pub sink_state_of : {W : Type 0} {w : Ghosts W} → StdSink W w → SinkState
sink_state_of sink = record { written = None; faults = count_of sink }

-- whether a stream has failed, after which it gets nothing more
abbrev pub is_broken_in : {W : Type 0} {w : Ghosts W} → StdSink W w → Bool
is_broken_in sink = sink.is_broken

-- the stream behind the buffer
abbrev pub stream_of : {W : Type 0} {w : Ghosts W} → StdSink W w → W
stream_of sink = sink.stream

-- the bytes that the stream holds, if it tells them, followed by those that are buffered
abbrev pub held_by : {W : Type 0} {w : Ghosts W} → StdSink W w → Option (List ℕ)
held_by {W} {w} sink = append_known (w.contents sink.stream) sink.gathered.items
