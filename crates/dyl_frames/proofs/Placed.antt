-- What is so of a core is so over other units and another memory, where these are sound.
use Rattle.spec_loading.specs.spec_execution.Views.{View}
use Rattle.spec_loading.specs.spec_runtime.Memories.{MemoryInstance}
use Rattle.spec_loading.specs.spec_safety.ValueTypes.{IsMemory}
use Rattle.spec_loading.specs.spec_safety.TypedViews.{HoldTypes}
use Rattle.dyl_frames.specs.declared.frames.Core.{Core}
use Rattle.dyl_frames.specs.Cores.{IsCore}

pub core_over : {Units : Type 0} (V : View Units) (us us' : Units) (memory memory' : MemoryInstance) (c : Core) → IsCore V us memory c
    → HoldTypes V V.names us' → IsMemory memory' → IsCore V us' memory' c
core_over V us us' memory memory' c h holds whole = record {
  sound = record {
    over = record {
      view = h.sound.over.view;
      units = holds;
      memory = whole;
      stack = h.sound.over.stack;
      locals = h.sound.over.locals;
      rooms = h.sound.over.rooms;
      asked = h.sound.over.asked;
    };
    live = h.sound.live;
    pending = h.sound.pending;
  };
  few = h.few;
}
