-- Traces with the replies that a reference program of the rules gave: random commands. Made by `tools/evidence --make Random.antt`.
use Rattle.std.specs.Prelude.{false, true, [], ◌∷◌, ◌++◌, replicate, Some, None}
use Rattle.std.specs.List.{range_with_len}
use Rattle.pmem_base.specs.declared.commands.Command.TheVariants as Do
use Rattle.pmem_base.specs.declared.answers.Mark.TheVariants.{Begin, Seal}
use Rattle.pmem_base.specs.declared.answers.Answer.TheVariants as Say
use Rattle.pmem_base.specs.declared.answers.Place.TheVariants as Place
use Rattle.pmem_base.specs.declared.answers.Exhibit.TheVariants.{Twin}
use Rattle.pmem_base.specs.Lines.{line_of, filled_line}
use Rattle.suite.specs.Setup.{Setup}
use Rattle.evidence.specs.Samples.{weak, blur, ctr, short_tag}
use Rattle.evidence.specs.Traces.{Trace, answered, answered_with}

-- Without tampering, 80 commands
abbrev pub calm_one_setup : Setup
calm_one_setup =
    record {
      shape = record { levels = 1; sets = 1; ways = 1; loss = 4; major = 0; persist = 0; shadow = true; durable = false; combines = false };
      formulas = weak;
    }

abbrev pub calm_one : Trace
calm_one =
    answered (Do.Cut 1) Say.Ok
    ∷ answered (Do.Drain 0) Say.Empty
    ∷ answered (Do.Read 0 1) (Say.Got (filled_line 0) 0)
    ∷ answered (Do.Drain 1) Say.Empty
    ∷ answered (Do.Cut 2) Say.Ok
    ∷ answered (Do.Drain 0) Say.Empty
    ∷ answered (Do.Drain 0) Say.Empty
    ∷ answered (Do.Drain 1) Say.Empty
    ∷ answered (Do.Post 0 130 (filled_line 109)) Say.Ok
    ∷ answered Do.Turn Say.Idle
    ∷ answered (Do.Drain 0) (Say.CutLost None 2)
    ∷ answered Do.On (Say.Recovered 256 5 2)
    ∷ answered (Do.Post 0 1 (filled_line 83)) Say.Ok
    ∷ answered (Do.Post 0 130 (filled_line 44)) Say.Ok
    ∷ answered (Do.Post 0 0 (filled_line 91)) Say.Ok
    ∷ answered (Do.Read 0 64) (Say.Got (filled_line 0) 0)
    ∷ answered (Do.Post 0 0 (filled_line 140)) Say.Ok
    ∷ answered Do.Off Say.Ok
    ∷ answered Do.On (Say.Recovered 0 1 0)
    ∷ answered Do.On Say.Already
    ∷ answered (Do.Fence 0) (Say.Fenced 0 0)
    ∷ answered Do.On Say.Already
    ∷ answered (Do.Drain 0) Say.Empty
    ∷ answered (Do.Post 0 130 (filled_line 105)) Say.Ok
    ∷ answered (Do.Read 0 64) (Say.Got (filled_line 0) 0)
    ∷ answered (Do.Post 0 1 (filled_line 58)) Say.Ok
    ∷ answered_with (Do.Drain 0) ((Seal 130 (ctr 0 1) (line_of (234 ∷ 237 ∷ 236 ∷ 239 ∷ 238 ∷ 225 ∷ 224 ∷ 227 ∷ 226 ∷ 229 ∷ 228 ∷ 231 ∷ 230 ∷ 249 ∷ 248 ∷ 251 ∷ 250 ∷ 253 ∷ 252 ∷ 255 ∷ 254 ∷ 241 ∷ 240 ∷ 243 ∷ 242 ∷ 245 ∷ 244 ∷ 247 ∷ 246 ∷ 201 ∷ 200 ∷ 203 ∷ 202 ∷ 205 ∷ 204 ∷ 207 ∷ 206 ∷ 193 ∷ 192 ∷ 195 ∷ 194 ∷ 197 ∷ 196 ∷ 199 ∷ 198 ∷ 217 ∷ 216 ∷ 219 ∷ 218 ∷ 221 ∷ 220 ∷ 223 ∷ 222 ∷ 209 ∷ 208 ∷ 211 ∷ 210 ∷ 213 ∷ 212 ∷ 215 ∷ 214 ∷ 169 ∷ 168 ∷ 171 ∷ [])) (short_tag 211)) ∷ []) (Say.Drained 6)
    ∷ answered_with (Do.Drain 0) ((Seal 1 (ctr 0 1) (line_of (56 ∷ 57 ∷ 62 ∷ 63 ∷ 60 ∷ 61 ∷ 50 ∷ 51 ∷ 48 ∷ 49 ∷ 54 ∷ 55 ∷ 52 ∷ 53 ∷ 42 ∷ 43 ∷ 40 ∷ 41 ∷ 46 ∷ 47 ∷ 44 ∷ 45 ∷ 34 ∷ 35 ∷ 32 ∷ 33 ∷ 38 ∷ 39 ∷ 36 ∷ 37 ∷ 26 ∷ 27 ∷ 24 ∷ 25 ∷ 30 ∷ 31 ∷ 28 ∷ 29 ∷ 18 ∷ 19 ∷ 16 ∷ 17 ∷ 22 ∷ 23 ∷ 20 ∷ 21 ∷ 10 ∷ 11 ∷ 8 ∷ 9 ∷ 14 ∷ 15 ∷ 12 ∷ 13 ∷ 2 ∷ 3 ∷ 0 ∷ 1 ∷ 6 ∷ 7 ∷ 4 ∷ 5 ∷ 122 ∷ 123 ∷ [])) (short_tag 16)) ∷ []) (Say.Drained 6)
    ∷ answered (Do.Read 0 130) (Say.Got (filled_line 105) 1)
    ∷ answered (Do.Read 0 1) (Say.Got (filled_line 58) 0)
    ∷ answered Do.On Say.Already
    ∷ answered (Do.Drain 0) Say.Empty
    ∷ answered Do.Off Say.Ok
    ∷ answered (Do.Drain 0) Say.Off
    ∷ answered Do.On (Say.Recovered 255 5 3)
    ∷ answered (Do.Post 0 64 (filled_line 8)) Say.Ok
    ∷ answered Do.Turn Say.Idle
    ∷ answered_with (Do.Fence 0) ((Seal 64 (ctr 0 1) (line_of (range_with_len 73 7 ++ range_with_len 64 8 ++ range_with_len 88 8 ++ range_with_len 80 8 ++ range_with_len 104 8 ++ range_with_len 96 8 ++ range_with_len 120 8 ++ range_with_len 112 8 ++ 136 ∷ [])) (short_tag 145)) ∷ []) (Say.Fenced 1 6)
    ∷ answered Do.Flush (Say.Flushed 0 1)
    ∷ answered (Do.Post 0 130 (filled_line 198)) Say.Ok
    ∷ answered (Do.Post 0 1 (filled_line 86)) Say.Ok
    ∷ answered Do.Turn Say.Idle
    ∷ answered (Do.Read 1 1) (Say.Got (filled_line 58) 1)
    ∷ answered (Do.Post 0 0 (filled_line 86)) Say.Ok
    ∷ answered Do.Turn Say.Idle
    ∷ answered_with (Do.Drain 0) ((Seal 130 (ctr 0 2) (line_of (66 ∷ 67 ∷ 64 ∷ 65 ∷ 78 ∷ 79 ∷ 76 ∷ 77 ∷ 74 ∷ 75 ∷ 72 ∷ 73 ∷ 86 ∷ 87 ∷ 84 ∷ 85 ∷ 82 ∷ 83 ∷ 80 ∷ 81 ∷ 94 ∷ 95 ∷ 92 ∷ 93 ∷ 90 ∷ 91 ∷ 88 ∷ 89 ∷ 102 ∷ 103 ∷ 100 ∷ 101 ∷ 98 ∷ 99 ∷ 96 ∷ 97 ∷ 110 ∷ 111 ∷ 108 ∷ 109 ∷ 106 ∷ 107 ∷ 104 ∷ 105 ∷ 118 ∷ 119 ∷ 116 ∷ 117 ∷ 114 ∷ 115 ∷ 112 ∷ 113 ∷ 126 ∷ 127 ∷ 124 ∷ 125 ∷ 122 ∷ 123 ∷ 120 ∷ 121 ∷ 6 ∷ 7 ∷ 4 ∷ 5 ∷ [])) (short_tag 144)) ∷ []) (Say.Drained 5)
    ∷ answered (Do.Post 0 0 (filled_line 140)) Say.Ok
    ∷ answered_with (Do.Drain 0) ((Seal 1 (ctr 0 2) (line_of (85 ∷ 82 ∷ 83 ∷ 80 ∷ 81 ∷ 94 ∷ 95 ∷ 92 ∷ 93 ∷ 90 ∷ 91 ∷ 88 ∷ 89 ∷ 70 ∷ 71 ∷ 68 ∷ 69 ∷ 66 ∷ 67 ∷ 64 ∷ 65 ∷ 78 ∷ 79 ∷ 76 ∷ 77 ∷ 74 ∷ 75 ∷ 72 ∷ 73 ∷ 118 ∷ 119 ∷ 116 ∷ 117 ∷ 114 ∷ 115 ∷ 112 ∷ 113 ∷ 126 ∷ 127 ∷ 124 ∷ 125 ∷ 122 ∷ 123 ∷ 120 ∷ 121 ∷ 102 ∷ 103 ∷ 100 ∷ 101 ∷ 98 ∷ 99 ∷ 96 ∷ 97 ∷ 110 ∷ 111 ∷ 108 ∷ 109 ∷ 106 ∷ 107 ∷ 104 ∷ 105 ∷ 22 ∷ 23 ∷ 20 ∷ [])) (short_tag 83)) ∷ []) (Say.Drained 6)
    ∷ answered_with (Do.Drain 0) ((Seal 0 (ctr 0 1) (line_of (87 ∷ 84 ∷ 85 ∷ 82 ∷ 83 ∷ 80 ∷ 81 ∷ 94 ∷ 95 ∷ 92 ∷ 93 ∷ 90 ∷ 91 ∷ 88 ∷ 89 ∷ 70 ∷ 71 ∷ 68 ∷ 69 ∷ 66 ∷ 67 ∷ 64 ∷ 65 ∷ 78 ∷ 79 ∷ 76 ∷ 77 ∷ 74 ∷ 75 ∷ 72 ∷ 73 ∷ 118 ∷ 119 ∷ 116 ∷ 117 ∷ 114 ∷ 115 ∷ 112 ∷ 113 ∷ 126 ∷ 127 ∷ 124 ∷ 125 ∷ 122 ∷ 123 ∷ 120 ∷ 121 ∷ 102 ∷ 103 ∷ 100 ∷ 101 ∷ 98 ∷ 99 ∷ 96 ∷ 97 ∷ 110 ∷ 111 ∷ 108 ∷ 109 ∷ 106 ∷ 107 ∷ 104 ∷ 105 ∷ 22 ∷ [])) (short_tag 81)) ∷ []) (Say.Drained 4)
    ∷ answered (Do.Post 0 64 (filled_line 143)) Say.Ok
    ∷ answered (Do.Cut 6) Say.Ok
    ∷ answered Do.On Say.Already
    ∷ answered (Do.Post 0 1 (filled_line 67)) Say.Ok
    ∷ answered Do.Off Say.Ok
    ∷ answered Do.On (Say.Recovered 255 5 4)
    ∷ answered (Do.Post 0 1 (filled_line 0)) Say.Ok
    ∷ answered (Do.Post 0 1 (filled_line 253)) Say.Ok
    ∷ answered (Do.Post 0 64 (filled_line 173)) Say.Ok
    ∷ answered (Do.Read 0 1) (Say.Got (filled_line 253) 0)
    ∷ answered (Do.Drain 1) Say.Empty
    ∷ answered (Do.Loss 2) (Say.LossSet 1)
    ∷ answered Do.On Say.Already
    ∷ answered (Do.Read 0 0) (Say.Got (filled_line 86) 0)
    ∷ answered Do.On Say.Already
    ∷ answered (Do.Peek 242) (Say.Raw (line_of (range_with_len 242 14 ++ range_with_len 0 50)))
    ∷ answered_with (Do.Drain 0) ((Seal 1 (ctr 0 3) (line_of (range_with_len 4 64)) (short_tag 18)) ∷ []) (Say.Drained 6)
    ∷ answered (Do.Read 1 64) (Say.Got (filled_line 8) 1)
    ∷ answered (Do.Post 0 1 (filled_line 91)) Say.Ok
    ∷ answered Do.Turn Say.Idle
    ∷ answered (Do.Read 1 0) (Say.Got (filled_line 86) 0)
    ∷ answered (Do.Post 1 64 (filled_line 120)) Say.Ok
    ∷ answered Do.Turn Say.Idle
    ∷ answered Do.Turn Say.Idle
    ∷ answered Do.On Say.Already
    ∷ answered Do.Flush (Say.Flushed 0 1)
    ∷ answered (Do.Part 0 130 49 6 (line_of (replicate 6 77 ++ replicate 58 0))) Say.Ok
    ∷ answered Do.Flush Say.Clean
    ∷ answered Do.On Say.Already
    ∷ answered (Do.Post 0 1 (filled_line 23)) Say.Ok
    ∷ answered_with (Do.Drain 0) ((Seal 1 (ctr 0 4) (line_of (248 ∷ 251 ∷ 250 ∷ 245 ∷ 244 ∷ 247 ∷ 246 ∷ 241 ∷ 240 ∷ 243 ∷ 242 ∷ 237 ∷ 236 ∷ 239 ∷ 238 ∷ 233 ∷ 232 ∷ 235 ∷ 234 ∷ 229 ∷ 228 ∷ 231 ∷ 230 ∷ 225 ∷ 224 ∷ 227 ∷ 226 ∷ 221 ∷ 220 ∷ 223 ∷ 222 ∷ 217 ∷ 216 ∷ 219 ∷ 218 ∷ 213 ∷ 212 ∷ 215 ∷ 214 ∷ 209 ∷ 208 ∷ 211 ∷ 210 ∷ 205 ∷ 204 ∷ 207 ∷ 206 ∷ 201 ∷ 200 ∷ 203 ∷ 202 ∷ 197 ∷ 196 ∷ 199 ∷ 198 ∷ 193 ∷ 192 ∷ 195 ∷ 194 ∷ 189 ∷ 188 ∷ 191 ∷ 190 ∷ 185 ∷ [])) (short_tag 85)) ∷ []) (Say.Drained 5)
    ∷ []

-- Without tampering, 80 commands
abbrev pub calm_two_setup : Setup
calm_two_setup =
    record {
      shape = record { levels = 2; sets = 1; ways = 1; loss = 2; major = 0; persist = 0; shadow = true; durable = false; combines = false };
      formulas = weak;
    }

abbrev pub calm_two : Trace
calm_two =
    answered (Do.Post 0 3 (filled_line 109)) Say.Ok
    ∷ answered (Do.Post 0 64 (filled_line 59)) Say.Ok
    ∷ answered Do.Turn Say.Idle
    ∷ answered (Do.Post 0 0 (filled_line 177)) Say.Ok
    ∷ answered (Do.Post 1 0 (filled_line 98)) Say.Ok
    ∷ answered (Do.Post 1 0 (filled_line 62)) Say.Ok
    ∷ answered (Do.Read 1 0) (Say.Got (filled_line 62) 0)
    ∷ answered (Do.Part 0 64 16 32 (line_of (replicate 32 188 ++ replicate 32 0))) Say.Ok
    ∷ answered (Do.Peek 277) (Say.Raw (line_of (range_with_len 21 64)))
    ∷ answered (Do.Read 0 0) (Say.Got (filled_line 177) 0)
    ∷ answered (Do.Read 0 0) (Say.Got (filled_line 177) 0)
    ∷ answered (Do.Part 0 64 63 1 (line_of (196 ∷ replicate 63 0))) Say.Ok
    ∷ answered (Do.Read 0 1023) (Say.Got (filled_line 0) 0)
    ∷ answered Do.On Say.Already
    ∷ answered_with (Do.Drain 0) ((Seal 3 (ctr 0 1) (line_of (105 ∷ 104 ∷ 107 ∷ 106 ∷ 101 ∷ 100 ∷ 103 ∷ 102 ∷ 97 ∷ 96 ∷ 99 ∷ 98 ∷ 125 ∷ 124 ∷ 127 ∷ 126 ∷ 121 ∷ 120 ∷ 123 ∷ 122 ∷ 117 ∷ 116 ∷ 119 ∷ 118 ∷ 113 ∷ 112 ∷ 115 ∷ 114 ∷ 77 ∷ 76 ∷ 79 ∷ 78 ∷ 73 ∷ 72 ∷ 75 ∷ 74 ∷ 69 ∷ 68 ∷ 71 ∷ 70 ∷ 65 ∷ 64 ∷ 67 ∷ 66 ∷ 93 ∷ 92 ∷ 95 ∷ 94 ∷ 89 ∷ 88 ∷ 91 ∷ 90 ∷ 85 ∷ 84 ∷ 87 ∷ 86 ∷ 81 ∷ 80 ∷ 83 ∷ 82 ∷ 45 ∷ 44 ∷ 47 ∷ 46 ∷ [])) (short_tag 18)) ∷ []) (Say.Drained 7)
    ∷ answered (Do.Cut 7) Say.Ok
    ∷ answered (Do.Read 1 3) (Say.Got (filled_line 109) 0)
    ∷ answered (Do.Post 0 1023 (filled_line 18)) Say.Ok
    ∷ answered (Do.Post 1 1023 (filled_line 66)) Say.Ok
    ∷ answered_with (Do.Drain 0) ((Seal 64 (ctr 0 1) (line_of (122 ∷ 121 ∷ 120 ∷ 127 ∷ 126 ∷ 125 ∷ 124 ∷ 115 ∷ 114 ∷ 113 ∷ 112 ∷ 119 ∷ 118 ∷ 117 ∷ 116 ∷ 107 ∷ 106 ∷ 105 ∷ 104 ∷ 111 ∷ 110 ∷ 109 ∷ 108 ∷ 99 ∷ 98 ∷ 97 ∷ 96 ∷ 103 ∷ 102 ∷ 101 ∷ 100 ∷ 91 ∷ 90 ∷ 89 ∷ 88 ∷ 95 ∷ 94 ∷ 93 ∷ 92 ∷ 83 ∷ 82 ∷ 81 ∷ 80 ∷ 87 ∷ 86 ∷ 85 ∷ 84 ∷ 75 ∷ 74 ∷ 73 ∷ 72 ∷ 79 ∷ 78 ∷ 77 ∷ 76 ∷ 67 ∷ 66 ∷ 65 ∷ 64 ∷ 71 ∷ 70 ∷ 69 ∷ 68 ∷ 187 ∷ [])) (short_tag 145)) ∷ []) (Say.Drained 6)
    ∷ answered (Do.Read 0 3) (Say.Got (filled_line 109) 1)
    ∷ answered (Do.Post 0 3 (filled_line 2)) Say.Ok
    ∷ answered (Do.Peek 818) (Say.Raw (line_of (range_with_len 50 64)))
    ∷ answered (Do.Part 1 0 59 2 (line_of (27 ∷ 27 ∷ replicate 62 0))) Say.Ok
    ∷ answered (Do.Post 0 64 (filled_line 251)) Say.Ok
    ∷ answered (Do.Drain 0) (Say.CutLost None 0)
    ∷ answered Do.On (Say.Recovered 127 9 4)
    ∷ answered (Do.Post 1 0 (filled_line 109)) Say.Ok
    ∷ answered (Do.Post 0 1023 (filled_line 55)) Say.Ok
    ∷ answered (Do.Post 0 0 (filled_line 164)) Say.Ok
    ∷ answered (Do.Part 0 1023 61 2 (line_of (127 ∷ 127 ∷ replicate 62 0))) Say.Ok
    ∷ answered (Do.Read 0 3) (Say.Got (filled_line 109) 0)
    ∷ answered (Do.Post 0 3 (filled_line 119)) Say.Ok
    ∷ answered Do.Flush Say.Clean
    ∷ answered_with (Do.Fence 1) ((Seal 0 (ctr 0 1) (line_of (108 ∷ 111 ∷ 110 ∷ 105 ∷ 104 ∷ 107 ∷ 106 ∷ 101 ∷ 100 ∷ 103 ∷ 102 ∷ 97 ∷ 96 ∷ 99 ∷ 98 ∷ 125 ∷ 124 ∷ 127 ∷ 126 ∷ 121 ∷ 120 ∷ 123 ∷ 122 ∷ 117 ∷ 116 ∷ 119 ∷ 118 ∷ 113 ∷ 112 ∷ 115 ∷ 114 ∷ 77 ∷ 76 ∷ 79 ∷ 78 ∷ 73 ∷ 72 ∷ 75 ∷ 74 ∷ 69 ∷ 68 ∷ 71 ∷ 70 ∷ 65 ∷ 64 ∷ 67 ∷ 66 ∷ 93 ∷ 92 ∷ 95 ∷ 94 ∷ 89 ∷ 88 ∷ 91 ∷ 90 ∷ 85 ∷ 84 ∷ 87 ∷ 86 ∷ 81 ∷ 80 ∷ 83 ∷ 82 ∷ 45 ∷ [])) (short_tag 81)) ∷ []) (Say.Fenced 1 7)
    ∷ answered (Do.Drain 1) Say.Empty
    ∷ answered (Do.Post 1 1023 (filled_line 161)) Say.Ok
    ∷ answered Do.Flush (Say.Flushed 0 1)
    ∷ answered (Do.Read 0 0) (Say.Got (filled_line 164) 0)
    ∷ answered_with (Do.Drain 1) ((Seal 1023 (ctr 0 1) (line_of (161 ∷ 160 ∷ 163 ∷ 162 ∷ 165 ∷ 164 ∷ 167 ∷ 166 ∷ 169 ∷ 168 ∷ 171 ∷ 170 ∷ 173 ∷ 172 ∷ 175 ∷ 174 ∷ 177 ∷ 176 ∷ 179 ∷ 178 ∷ 181 ∷ 180 ∷ 183 ∷ 182 ∷ 185 ∷ 184 ∷ 187 ∷ 186 ∷ 189 ∷ 188 ∷ 191 ∷ 190 ∷ 129 ∷ 128 ∷ 131 ∷ 130 ∷ 133 ∷ 132 ∷ 135 ∷ 134 ∷ 137 ∷ 136 ∷ 139 ∷ 138 ∷ 141 ∷ 140 ∷ 143 ∷ 142 ∷ 145 ∷ 144 ∷ 147 ∷ 146 ∷ 149 ∷ 148 ∷ 151 ∷ 150 ∷ 153 ∷ 152 ∷ 155 ∷ 154 ∷ 157 ∷ 156 ∷ 159 ∷ 158 ∷ [])) (short_tag 237)) ∷ []) (Say.Drained 8)
    ∷ answered (Do.Read 1 64) (Say.Got (filled_line 59) 2)
    ∷ answered (Do.Post 0 0 (filled_line 12)) Say.Ok
    ∷ answered (Do.Post 0 3 (filled_line 86)) Say.Ok
    ∷ answered_with (Do.Fence 0) ((Seal 1023 (ctr 0 2) (line_of (54 ∷ 53 ∷ 52 ∷ 51 ∷ 50 ∷ 49 ∷ 48 ∷ 63 ∷ 62 ∷ 61 ∷ 60 ∷ 59 ∷ 58 ∷ 57 ∷ 56 ∷ 39 ∷ 38 ∷ 37 ∷ 36 ∷ 35 ∷ 34 ∷ 33 ∷ 32 ∷ 47 ∷ 46 ∷ 45 ∷ 44 ∷ 43 ∷ 42 ∷ 41 ∷ 40 ∷ 23 ∷ 22 ∷ 21 ∷ 20 ∷ 19 ∷ 18 ∷ 17 ∷ 16 ∷ 31 ∷ 30 ∷ 29 ∷ 28 ∷ 27 ∷ 26 ∷ 25 ∷ 24 ∷ 7 ∷ 6 ∷ 5 ∷ 4 ∷ 3 ∷ 2 ∷ 1 ∷ 0 ∷ 15 ∷ 14 ∷ 13 ∷ 12 ∷ 11 ∷ 10 ∷ 9 ∷ 8 ∷ 119 ∷ [])) (short_tag 174)) ∷ (Seal 0 (ctr 0 2) (line_of (166 ∷ 167 ∷ range_with_len 160 4 ++ range_with_len 172 4 ++ range_with_len 168 4 ++ range_with_len 180 4 ++ range_with_len 176 4 ++ range_with_len 188 4 ++ range_with_len 184 4 ++ range_with_len 132 4 ++ range_with_len 128 4 ++ range_with_len 140 4 ++ range_with_len 136 4 ++ range_with_len 148 4 ++ range_with_len 144 4 ++ range_with_len 156 4 ++ range_with_len 152 4 ++ 228 ∷ 229 ∷ [])) (short_tag 18)) ∷ (Seal 1023 (ctr 0 3) (line_of (53 ∷ 52 ∷ 51 ∷ 50 ∷ 49 ∷ 48 ∷ 63 ∷ 62 ∷ 61 ∷ 60 ∷ 59 ∷ 58 ∷ 57 ∷ 56 ∷ 39 ∷ 38 ∷ 37 ∷ 36 ∷ 35 ∷ 34 ∷ 33 ∷ 32 ∷ 47 ∷ 46 ∷ 45 ∷ 44 ∷ 43 ∷ 42 ∷ 41 ∷ 40 ∷ 23 ∷ 22 ∷ 21 ∷ 20 ∷ 19 ∷ 18 ∷ 17 ∷ 16 ∷ 31 ∷ 30 ∷ 29 ∷ 28 ∷ 27 ∷ 26 ∷ 25 ∷ 24 ∷ 7 ∷ 6 ∷ 5 ∷ 4 ∷ 3 ∷ 2 ∷ 1 ∷ 0 ∷ 15 ∷ 14 ∷ 13 ∷ 12 ∷ 11 ∷ 10 ∷ 9 ∷ 64 ∷ 63 ∷ 118 ∷ [])) (short_tag 239)) ∷ (Seal 3 (ctr 0 2) (line_of (114 ∷ 113 ∷ 112 ∷ 127 ∷ 126 ∷ 125 ∷ 124 ∷ 123 ∷ 122 ∷ 121 ∷ 120 ∷ 103 ∷ 102 ∷ 101 ∷ 100 ∷ 99 ∷ 98 ∷ 97 ∷ 96 ∷ 111 ∷ 110 ∷ 109 ∷ 108 ∷ 107 ∷ 106 ∷ 105 ∷ 104 ∷ 87 ∷ 86 ∷ 85 ∷ 84 ∷ 83 ∷ 82 ∷ 81 ∷ 80 ∷ 95 ∷ 94 ∷ 93 ∷ 92 ∷ 91 ∷ 90 ∷ 89 ∷ 88 ∷ 71 ∷ 70 ∷ 69 ∷ 68 ∷ 67 ∷ 66 ∷ 65 ∷ 64 ∷ 79 ∷ 78 ∷ 77 ∷ 76 ∷ 75 ∷ 74 ∷ 73 ∷ 72 ∷ 55 ∷ 54 ∷ 53 ∷ 52 ∷ 51 ∷ [])) (short_tag 81)) ∷ (Seal 0 (ctr 0 3) (line_of (15 ∷ range_with_len 8 4 ++ range_with_len 4 4 ++ range_with_len 0 4 ++ range_with_len 28 4 ++ range_with_len 24 4 ++ range_with_len 20 4 ++ range_with_len 16 4 ++ range_with_len 44 4 ++ range_with_len 40 4 ++ range_with_len 36 4 ++ range_with_len 32 4 ++ range_with_len 60 4 ++ range_with_len 56 4 ++ range_with_len 52 4 ++ range_with_len 48 4 ++ 76 ∷ 77 ∷ 78 ∷ [])) (short_tag 83)) ∷ (Seal 3 (ctr 0 3) (line_of (80 ∷ 81 ∷ 94 ∷ 95 ∷ 92 ∷ 93 ∷ 90 ∷ 91 ∷ 88 ∷ 89 ∷ 70 ∷ 71 ∷ 68 ∷ 69 ∷ 66 ∷ 67 ∷ 64 ∷ 65 ∷ 78 ∷ 79 ∷ 76 ∷ 77 ∷ 74 ∷ 75 ∷ 72 ∷ 73 ∷ 118 ∷ 119 ∷ 116 ∷ 117 ∷ 114 ∷ 115 ∷ 112 ∷ 113 ∷ 126 ∷ 127 ∷ 124 ∷ 125 ∷ 122 ∷ 123 ∷ 120 ∷ 121 ∷ 102 ∷ 103 ∷ 100 ∷ 101 ∷ 98 ∷ 99 ∷ 96 ∷ 97 ∷ 110 ∷ 111 ∷ 108 ∷ 109 ∷ 106 ∷ 107 ∷ 104 ∷ 105 ∷ 22 ∷ 23 ∷ 20 ∷ 21 ∷ 18 ∷ 19 ∷ [])) (short_tag 16)) ∷ []) (Say.Fenced 6 37)
    ∷ answered (Do.Post 0 64 (filled_line 25)) Say.Ok
    ∷ answered Do.Turn Say.Idle
    ∷ answered (Do.Read 0 0) (Say.Got (filled_line 12) 0)
    ∷ answered (Do.Read 0 0) (Say.Got (filled_line 12) 0)
    ∷ answered Do.Stat (Say.Counts (record { reads = 187; writes = 53; latches = 20; tags = 145; digests = 61 }))
    ∷ answered (Do.Post 0 64 (filled_line 32)) Say.Ok
    ∷ answered (Do.Part 0 1023 11 33 (line_of (replicate 33 85 ++ replicate 31 0))) Say.Ok
    ∷ answered (Do.Post 1 3 (filled_line 88)) Say.Ok
    ∷ answered_with (Do.Drain 0) ((Seal 64 (ctr 0 2) (line_of (91 ∷ 90 ∷ 93 ∷ 92 ∷ 95 ∷ 94 ∷ 81 ∷ 80 ∷ 83 ∷ 82 ∷ 85 ∷ 84 ∷ 87 ∷ 86 ∷ 73 ∷ 72 ∷ 75 ∷ 74 ∷ 77 ∷ 76 ∷ 79 ∷ 78 ∷ 65 ∷ 64 ∷ 67 ∷ 66 ∷ 69 ∷ 68 ∷ 71 ∷ 70 ∷ 121 ∷ 120 ∷ 123 ∷ 122 ∷ 125 ∷ 124 ∷ 127 ∷ 126 ∷ 113 ∷ 112 ∷ 115 ∷ 114 ∷ 117 ∷ 116 ∷ 119 ∷ 118 ∷ 105 ∷ 104 ∷ 107 ∷ 106 ∷ 109 ∷ 108 ∷ 111 ∷ 110 ∷ 97 ∷ 96 ∷ 99 ∷ 98 ∷ 101 ∷ 100 ∷ 103 ∷ 102 ∷ 153 ∷ 152 ∷ [])) (short_tag 82)) ∷ []) (Say.Drained 7)
    ∷ answered Do.Flush (Say.Flushed 0 1)
    ∷ answered (Do.Read 1 0) (Say.Got (filled_line 12) 0)
    ∷ answered (Do.Post 1 1023 (filled_line 111)) Say.Ok
    ∷ answered Do.On Say.Already
    ∷ answered (Do.Post 0 0 (filled_line 65)) Say.Ok
    ∷ answered (Do.Read 1 1023) (Say.Got (filled_line 111) 0)
    ∷ answered Do.On Say.Already
    ∷ answered_with (Do.Fence 0) ((Seal 64 (ctr 0 3) (line_of (range_with_len 99 29 ++ range_with_len 64 32 ++ 160 ∷ 161 ∷ 162 ∷ [])) (short_tag 147)) ∷ (Seal 1023 (ctr 0 4) (line_of (52 ∷ 51 ∷ 50 ∷ 49 ∷ 48 ∷ 63 ∷ 62 ∷ 61 ∷ 60 ∷ 59 ∷ 58 ∷ 91 ∷ 90 ∷ 69 ∷ 68 ∷ 71 ∷ 70 ∷ 65 ∷ 64 ∷ 67 ∷ 66 ∷ 77 ∷ 76 ∷ 79 ∷ 78 ∷ 73 ∷ 72 ∷ 75 ∷ 74 ∷ 117 ∷ 116 ∷ 119 ∷ 118 ∷ 113 ∷ 112 ∷ 115 ∷ 114 ∷ 125 ∷ 124 ∷ 127 ∷ 126 ∷ 121 ∷ 120 ∷ 123 ∷ 24 ∷ 7 ∷ 6 ∷ 5 ∷ 4 ∷ 3 ∷ 2 ∷ 1 ∷ 0 ∷ 15 ∷ 14 ∷ 13 ∷ 12 ∷ 11 ∷ 10 ∷ 9 ∷ 8 ∷ 63 ∷ 62 ∷ 117 ∷ [])) (short_tag 202)) ∷ (Seal 0 (ctr 0 4) (line_of (69 ∷ 68 ∷ 71 ∷ 70 ∷ 73 ∷ 72 ∷ 75 ∷ 74 ∷ 77 ∷ 76 ∷ 79 ∷ 78 ∷ 81 ∷ 80 ∷ 83 ∷ 82 ∷ 85 ∷ 84 ∷ 87 ∷ 86 ∷ 89 ∷ 88 ∷ 91 ∷ 90 ∷ 93 ∷ 92 ∷ 95 ∷ 94 ∷ 97 ∷ 96 ∷ 99 ∷ 98 ∷ 101 ∷ 100 ∷ 103 ∷ 102 ∷ 105 ∷ 104 ∷ 107 ∷ 106 ∷ 109 ∷ 108 ∷ 111 ∷ 110 ∷ 113 ∷ 112 ∷ 115 ∷ 114 ∷ 117 ∷ 116 ∷ 119 ∷ 118 ∷ 121 ∷ 120 ∷ 123 ∷ 122 ∷ 125 ∷ 124 ∷ 127 ∷ 126 ∷ 1 ∷ 0 ∷ 3 ∷ 2 ∷ [])) (short_tag 20)) ∷ []) (Say.Fenced 3 21)
    ∷ answered (Do.Cut 4) Say.Ok
    ∷ answered (Do.Post 0 64 (filled_line 160)) Say.Ok
    ∷ answered (Do.Post 0 1023 (filled_line 197)) Say.Ok
    ∷ answered (Do.Post 1 64 (filled_line 121)) Say.Ok
    ∷ answered_with (Do.Drain 0) ((Seal 64 (ctr 0 4) (line_of (range_with_len 228 28 ++ range_with_len 192 32 ++ range_with_len 32 4)) (short_tag 84)) ∷ []) (Say.CutKept None 4)
    ∷ answered Do.On (Say.Recovered 128 9 8)
    ∷ answered (Do.Post 0 0 (filled_line 176)) Say.Ok
    ∷ answered (Do.Post 1 0 (filled_line 156)) Say.Ok
    ∷ answered_with (Do.Drain 0) ((Seal 0 (ctr 0 5) (line_of (range_with_len 181 11 ++ range_with_len 160 16 ++ range_with_len 144 16 ++ range_with_len 128 16 ++ range_with_len 240 5)) (short_tag 85)) ∷ []) (Say.Drained 7)
    ∷ answered (Do.Read 1 3) (Say.Got (filled_line 86) 0)
    ∷ answered Do.On Say.Already
    ∷ answered (Do.Drain 0) Say.Empty
    ∷ answered (Do.Post 0 0 (filled_line 98)) Say.Ok
    ∷ answered (Do.Read 0 3) (Say.Got (filled_line 86) 0)
    ∷ answered (Do.Peek 706) (Say.Raw (line_of (range_with_len 194 62 ++ 0 ∷ 1 ∷ [])))
    ∷ answered Do.On Say.Already
    ∷ answered Do.Flush (Say.Flushed 0 1)
    ∷ answered Do.Turn Say.Idle
    ∷ answered (Do.Read 0 0) (Say.Got (filled_line 98) 0)
    ∷ []

-- Without tampering, 320 commands: those before what is proved
abbrev pub calm_pages_before : Trace
calm_pages_before =
    answered (Do.Post 0 0 (filled_line 84)) Say.Ok
    ∷ answered_with (Do.Drain 0) ((Seal 0 (ctr 0 1) (line_of (85 ∷ 86 ∷ 87 ∷ range_with_len 80 4 ++ range_with_len 92 4 ++ range_with_len 88 4 ++ range_with_len 68 4 ++ range_with_len 64 4 ++ range_with_len 76 4 ++ range_with_len 72 4 ++ range_with_len 116 4 ++ range_with_len 112 4 ++ range_with_len 124 4 ++ range_with_len 120 4 ++ range_with_len 100 4 ++ range_with_len 96 4 ++ range_with_len 108 4 ++ range_with_len 104 4 ++ 20 ∷ [])) (short_tag 81)) ∷ []) (Say.Drained 6)
    ∷ answered (Do.Post 0 0 (filled_line 214)) Say.Ok
    ∷ answered_with (Do.Drain 0) ((Seal 0 (ctr 0 2) (line_of (212 ∷ 213 ∷ 210 ∷ 211 ∷ 208 ∷ 209 ∷ 222 ∷ 223 ∷ 220 ∷ 221 ∷ 218 ∷ 219 ∷ 216 ∷ 217 ∷ 198 ∷ 199 ∷ 196 ∷ 197 ∷ 194 ∷ 195 ∷ 192 ∷ 193 ∷ 206 ∷ 207 ∷ 204 ∷ 205 ∷ 202 ∷ 203 ∷ 200 ∷ 201 ∷ 246 ∷ 247 ∷ 244 ∷ 245 ∷ 242 ∷ 243 ∷ 240 ∷ 241 ∷ 254 ∷ 255 ∷ 252 ∷ 253 ∷ 250 ∷ 251 ∷ 248 ∷ 249 ∷ 230 ∷ 231 ∷ 228 ∷ 229 ∷ 226 ∷ 227 ∷ 224 ∷ 225 ∷ 238 ∷ 239 ∷ 236 ∷ 237 ∷ 234 ∷ 235 ∷ 232 ∷ 233 ∷ 150 ∷ 151 ∷ [])) (short_tag 18)) ∷ []) (Say.Drained 4)
    ∷ answered (Do.Post 0 0 (filled_line 214)) Say.Ok
    ∷ answered_with (Do.Drain 0) ((Seal 0 (ctr 0 3) (line_of (213 ∷ 210 ∷ 211 ∷ 208 ∷ 209 ∷ 222 ∷ 223 ∷ 220 ∷ 221 ∷ 218 ∷ 219 ∷ 216 ∷ 217 ∷ 198 ∷ 199 ∷ 196 ∷ 197 ∷ 194 ∷ 195 ∷ 192 ∷ 193 ∷ 206 ∷ 207 ∷ 204 ∷ 205 ∷ 202 ∷ 203 ∷ 200 ∷ 201 ∷ 246 ∷ 247 ∷ 244 ∷ 245 ∷ 242 ∷ 243 ∷ 240 ∷ 241 ∷ 254 ∷ 255 ∷ 252 ∷ 253 ∷ 250 ∷ 251 ∷ 248 ∷ 249 ∷ 230 ∷ 231 ∷ 228 ∷ 229 ∷ 226 ∷ 227 ∷ 224 ∷ 225 ∷ 238 ∷ 239 ∷ 236 ∷ 237 ∷ 234 ∷ 235 ∷ 232 ∷ 233 ∷ 150 ∷ 151 ∷ 148 ∷ [])) (short_tag 83)) ∷ []) (Say.Drained 4)
    ∷ answered (Do.Post 0 0 (filled_line 144)) Say.Ok
    ∷ answered_with (Do.Drain 0) ((Seal 0 (ctr 0 4) (line_of (range_with_len 148 12 ++ range_with_len 128 16 ++ range_with_len 176 16 ++ range_with_len 160 16 ++ range_with_len 208 4)) (short_tag 20)) ∷ []) (Say.Drained 5)
    ∷ answered (Do.Post 0 0 (filled_line 245)) Say.Ok
    ∷ answered_with (Do.Drain 0) ((Seal 0 (ctr 0 5) (line_of (240 ∷ 243 ∷ 242 ∷ 253 ∷ 252 ∷ 255 ∷ 254 ∷ 249 ∷ 248 ∷ 251 ∷ 250 ∷ 229 ∷ 228 ∷ 231 ∷ 230 ∷ 225 ∷ 224 ∷ 227 ∷ 226 ∷ 237 ∷ 236 ∷ 239 ∷ 238 ∷ 233 ∷ 232 ∷ 235 ∷ 234 ∷ 213 ∷ 212 ∷ 215 ∷ 214 ∷ 209 ∷ 208 ∷ 211 ∷ 210 ∷ 221 ∷ 220 ∷ 223 ∷ 222 ∷ 217 ∷ 216 ∷ 219 ∷ 218 ∷ 197 ∷ 196 ∷ 199 ∷ 198 ∷ 193 ∷ 192 ∷ 195 ∷ 194 ∷ 205 ∷ 204 ∷ 207 ∷ 206 ∷ 201 ∷ 200 ∷ 203 ∷ 202 ∷ 181 ∷ 180 ∷ 183 ∷ 182 ∷ 177 ∷ [])) (short_tag 85)) ∷ []) (Say.Drained 4)
    ∷ answered (Do.Post 0 0 (filled_line 110)) Say.Ok
    ∷ answered_with (Do.Drain 0) ((Seal 0 (ctr 0 6) (line_of (104 ∷ 105 ∷ 102 ∷ 103 ∷ 100 ∷ 101 ∷ 98 ∷ 99 ∷ 96 ∷ 97 ∷ 126 ∷ 127 ∷ 124 ∷ 125 ∷ 122 ∷ 123 ∷ 120 ∷ 121 ∷ 118 ∷ 119 ∷ 116 ∷ 117 ∷ 114 ∷ 115 ∷ 112 ∷ 113 ∷ 78 ∷ 79 ∷ 76 ∷ 77 ∷ 74 ∷ 75 ∷ 72 ∷ 73 ∷ 70 ∷ 71 ∷ 68 ∷ 69 ∷ 66 ∷ 67 ∷ 64 ∷ 65 ∷ 94 ∷ 95 ∷ 92 ∷ 93 ∷ 90 ∷ 91 ∷ 88 ∷ 89 ∷ 86 ∷ 87 ∷ 84 ∷ 85 ∷ 82 ∷ 83 ∷ 80 ∷ 81 ∷ 46 ∷ 47 ∷ 44 ∷ 45 ∷ 42 ∷ 43 ∷ [])) (short_tag 22)) ∷ []) (Say.Drained 4)
    ∷ answered (Do.Post 0 0 (filled_line 243)) Say.Ok
    ∷ answered_with (Do.Drain 0) ((Seal 0 (ctr 0 7) (line_of (244 ∷ 251 ∷ 250 ∷ 249 ∷ 248 ∷ 255 ∷ 254 ∷ 253 ∷ 252 ∷ 227 ∷ 226 ∷ 225 ∷ 224 ∷ 231 ∷ 230 ∷ 229 ∷ 228 ∷ 235 ∷ 234 ∷ 233 ∷ 232 ∷ 239 ∷ 238 ∷ 237 ∷ 236 ∷ 211 ∷ 210 ∷ 209 ∷ 208 ∷ 215 ∷ 214 ∷ 213 ∷ 212 ∷ 219 ∷ 218 ∷ 217 ∷ 216 ∷ 223 ∷ 222 ∷ 221 ∷ 220 ∷ 195 ∷ 194 ∷ 193 ∷ 192 ∷ 199 ∷ 198 ∷ 197 ∷ 196 ∷ 203 ∷ 202 ∷ 201 ∷ 200 ∷ 207 ∷ 206 ∷ 205 ∷ 204 ∷ 179 ∷ 178 ∷ 177 ∷ 176 ∷ 183 ∷ 182 ∷ 181 ∷ [])) (short_tag 87)) ∷ []) (Say.Drained 4)
    ∷ answered (Do.Post 0 0 (filled_line 93)) Say.Ok
    ∷ answered_with (Do.Drain 0) ((Seal 0 (ctr 0 8) (line_of (85 ∷ 84 ∷ 87 ∷ 86 ∷ 81 ∷ 80 ∷ 83 ∷ 82 ∷ 77 ∷ 76 ∷ 79 ∷ 78 ∷ 73 ∷ 72 ∷ 75 ∷ 74 ∷ 69 ∷ 68 ∷ 71 ∷ 70 ∷ 65 ∷ 64 ∷ 67 ∷ 66 ∷ 125 ∷ 124 ∷ 127 ∷ 126 ∷ 121 ∷ 120 ∷ 123 ∷ 122 ∷ 117 ∷ 116 ∷ 119 ∷ 118 ∷ 113 ∷ 112 ∷ 115 ∷ 114 ∷ 109 ∷ 108 ∷ 111 ∷ 110 ∷ 105 ∷ 104 ∷ 107 ∷ 106 ∷ 101 ∷ 100 ∷ 103 ∷ 102 ∷ 97 ∷ 96 ∷ 99 ∷ 98 ∷ 29 ∷ 28 ∷ 31 ∷ 30 ∷ 25 ∷ 24 ∷ 27 ∷ 26 ∷ [])) (short_tag 24)) ∷ []) (Say.Drained 5)
    ∷ answered (Do.Post 0 0 (filled_line 120)) Say.Ok
    ∷ answered_with (Do.Drain 0) ((Seal 0 (ctr 0 9) (line_of (range_with_len 113 7 ++ range_with_len 104 8 ++ range_with_len 96 8 ++ range_with_len 88 8 ++ range_with_len 80 8 ++ range_with_len 72 8 ++ range_with_len 64 8 ++ range_with_len 56 8 ++ 48 ∷ [])) (short_tag 89)) ∷ []) (Say.Drained 4)
    ∷ answered (Do.Post 0 0 (filled_line 1)) Say.Ok
    ∷ answered_with (Do.Drain 0) ((Seal 0 (ctr 0 10) (line_of (11 ∷ 10 ∷ 13 ∷ 12 ∷ 15 ∷ 14 ∷ 17 ∷ 16 ∷ 19 ∷ 18 ∷ 21 ∷ 20 ∷ 23 ∷ 22 ∷ 25 ∷ 24 ∷ 27 ∷ 26 ∷ 29 ∷ 28 ∷ 31 ∷ 30 ∷ 33 ∷ 32 ∷ 35 ∷ 34 ∷ 37 ∷ 36 ∷ 39 ∷ 38 ∷ 41 ∷ 40 ∷ 43 ∷ 42 ∷ 45 ∷ 44 ∷ 47 ∷ 46 ∷ 49 ∷ 48 ∷ 51 ∷ 50 ∷ 53 ∷ 52 ∷ 55 ∷ 54 ∷ 57 ∷ 56 ∷ 59 ∷ 58 ∷ 61 ∷ 60 ∷ 63 ∷ 62 ∷ 65 ∷ 64 ∷ 67 ∷ 66 ∷ 69 ∷ 68 ∷ 71 ∷ 70 ∷ 73 ∷ 72 ∷ [])) (short_tag 26)) ∷ []) (Say.Drained 4)
    ∷ answered (Do.Post 0 0 (filled_line 7)) Say.Ok
    ∷ answered_with (Do.Drain 0) ((Seal 0 (ctr 0 11) (line_of (12 ∷ 11 ∷ 10 ∷ 9 ∷ 8 ∷ 23 ∷ 22 ∷ 21 ∷ 20 ∷ 19 ∷ 18 ∷ 17 ∷ 16 ∷ 31 ∷ 30 ∷ 29 ∷ 28 ∷ 27 ∷ 26 ∷ 25 ∷ 24 ∷ 39 ∷ 38 ∷ 37 ∷ 36 ∷ 35 ∷ 34 ∷ 33 ∷ 32 ∷ 47 ∷ 46 ∷ 45 ∷ 44 ∷ 43 ∷ 42 ∷ 41 ∷ 40 ∷ 55 ∷ 54 ∷ 53 ∷ 52 ∷ 51 ∷ 50 ∷ 49 ∷ 48 ∷ 63 ∷ 62 ∷ 61 ∷ 60 ∷ 59 ∷ 58 ∷ 57 ∷ 56 ∷ 71 ∷ 70 ∷ 69 ∷ 68 ∷ 67 ∷ 66 ∷ 65 ∷ 64 ∷ 79 ∷ 78 ∷ 77 ∷ [])) (short_tag 91)) ∷ []) (Say.Drained 4)
    ∷ answered (Do.Post 0 0 (filled_line 189)) Say.Ok
    ∷ answered_with (Do.Drain 0) ((Seal 0 (ctr 0 12) (line_of (177 ∷ 176 ∷ 179 ∷ 178 ∷ 173 ∷ 172 ∷ 175 ∷ 174 ∷ 169 ∷ 168 ∷ 171 ∷ 170 ∷ 165 ∷ 164 ∷ 167 ∷ 166 ∷ 161 ∷ 160 ∷ 163 ∷ 162 ∷ 157 ∷ 156 ∷ 159 ∷ 158 ∷ 153 ∷ 152 ∷ 155 ∷ 154 ∷ 149 ∷ 148 ∷ 151 ∷ 150 ∷ 145 ∷ 144 ∷ 147 ∷ 146 ∷ 141 ∷ 140 ∷ 143 ∷ 142 ∷ 137 ∷ 136 ∷ 139 ∷ 138 ∷ 133 ∷ 132 ∷ 135 ∷ 134 ∷ 129 ∷ 128 ∷ 131 ∷ 130 ∷ 253 ∷ 252 ∷ 255 ∷ 254 ∷ 249 ∷ 248 ∷ 251 ∷ 250 ∷ 245 ∷ 244 ∷ 247 ∷ 246 ∷ [])) (short_tag 28)) ∷ []) (Say.Drained 5)
    ∷ answered (Do.Post 0 0 (filled_line 219)) Say.Ok
    ∷ answered_with (Do.Drain 0) ((Seal 0 (ctr 0 13) (line_of (214 ∷ 213 ∷ 212 ∷ 203 ∷ 202 ∷ 201 ∷ 200 ∷ 207 ∷ 206 ∷ 205 ∷ 204 ∷ 195 ∷ 194 ∷ 193 ∷ 192 ∷ 199 ∷ 198 ∷ 197 ∷ 196 ∷ 251 ∷ 250 ∷ 249 ∷ 248 ∷ 255 ∷ 254 ∷ 253 ∷ 252 ∷ 243 ∷ 242 ∷ 241 ∷ 240 ∷ 247 ∷ 246 ∷ 245 ∷ 244 ∷ 235 ∷ 234 ∷ 233 ∷ 232 ∷ 239 ∷ 238 ∷ 237 ∷ 236 ∷ 227 ∷ 226 ∷ 225 ∷ 224 ∷ 231 ∷ 230 ∷ 229 ∷ 228 ∷ 155 ∷ 154 ∷ 153 ∷ 152 ∷ 159 ∷ 158 ∷ 157 ∷ 156 ∷ 147 ∷ 146 ∷ 145 ∷ 144 ∷ 151 ∷ [])) (short_tag 93)) ∷ []) (Say.Drained 4)
    ∷ answered (Do.Post 0 0 (filled_line 35)) Say.Ok
    ∷ answered_with (Do.Drain 0) ((Seal 0 (ctr 0 14) (line_of (45 ∷ 44 ∷ 51 ∷ 50 ∷ 49 ∷ 48 ∷ 55 ∷ 54 ∷ 53 ∷ 52 ∷ 59 ∷ 58 ∷ 57 ∷ 56 ∷ 63 ∷ 62 ∷ 61 ∷ 60 ∷ 3 ∷ 2 ∷ 1 ∷ 0 ∷ 7 ∷ 6 ∷ 5 ∷ 4 ∷ 11 ∷ 10 ∷ 9 ∷ 8 ∷ 15 ∷ 14 ∷ 13 ∷ 12 ∷ 19 ∷ 18 ∷ 17 ∷ 16 ∷ 23 ∷ 22 ∷ 21 ∷ 20 ∷ 27 ∷ 26 ∷ 25 ∷ 24 ∷ 31 ∷ 30 ∷ 29 ∷ 28 ∷ 99 ∷ 98 ∷ 97 ∷ 96 ∷ 103 ∷ 102 ∷ 101 ∷ 100 ∷ 107 ∷ 106 ∷ 105 ∷ 104 ∷ 111 ∷ 110 ∷ [])) (short_tag 30)) ∷ []) (Say.Drained 4)
    ∷ answered (Do.Post 0 0 (filled_line 74)) Say.Ok
    ∷ answered_with (Do.Drain 0) ((Seal 0 (ctr 0 15) (line_of (69 ∷ 90 ∷ 91 ∷ 88 ∷ 89 ∷ 94 ∷ 95 ∷ 92 ∷ 93 ∷ 82 ∷ 83 ∷ 80 ∷ 81 ∷ 86 ∷ 87 ∷ 84 ∷ 85 ∷ 106 ∷ 107 ∷ 104 ∷ 105 ∷ 110 ∷ 111 ∷ 108 ∷ 109 ∷ 98 ∷ 99 ∷ 96 ∷ 97 ∷ 102 ∷ 103 ∷ 100 ∷ 101 ∷ 122 ∷ 123 ∷ 120 ∷ 121 ∷ 126 ∷ 127 ∷ 124 ∷ 125 ∷ 114 ∷ 115 ∷ 112 ∷ 113 ∷ 118 ∷ 119 ∷ 116 ∷ 117 ∷ 10 ∷ 11 ∷ 8 ∷ 9 ∷ 14 ∷ 15 ∷ 12 ∷ 13 ∷ 2 ∷ 3 ∷ 0 ∷ 1 ∷ 6 ∷ 7 ∷ 4 ∷ [])) (short_tag 95)) ∷ []) (Say.Drained 4)
    ∷ answered (Do.Post 0 0 (filled_line 118)) Say.Ok
    ∷ answered_with (Do.Drain 0) ((Seal 0 (ctr 0 16) (line_of (102 ∷ 103 ∷ 100 ∷ 101 ∷ 98 ∷ 99 ∷ 96 ∷ 97 ∷ 110 ∷ 111 ∷ 108 ∷ 109 ∷ 106 ∷ 107 ∷ 104 ∷ 105 ∷ 86 ∷ 87 ∷ 84 ∷ 85 ∷ 82 ∷ 83 ∷ 80 ∷ 81 ∷ 94 ∷ 95 ∷ 92 ∷ 93 ∷ 90 ∷ 91 ∷ 88 ∷ 89 ∷ 70 ∷ 71 ∷ 68 ∷ 69 ∷ 66 ∷ 67 ∷ 64 ∷ 65 ∷ 78 ∷ 79 ∷ 76 ∷ 77 ∷ 74 ∷ 75 ∷ 72 ∷ 73 ∷ 54 ∷ 55 ∷ 52 ∷ 53 ∷ 50 ∷ 51 ∷ 48 ∷ 49 ∷ 62 ∷ 63 ∷ 60 ∷ 61 ∷ 58 ∷ 59 ∷ 56 ∷ 57 ∷ [])) (short_tag 0)) ∷ []) (Say.Drained 5)
    ∷ answered (Do.Post 0 0 (filled_line 119)) Say.Ok
    ∷ answered_with (Do.Drain 0) ((Seal 0 (ctr 0 17) (line_of (102 ∷ 101 ∷ 100 ∷ 99 ∷ 98 ∷ 97 ∷ 96 ∷ 111 ∷ 110 ∷ 109 ∷ 108 ∷ 107 ∷ 106 ∷ 105 ∷ 104 ∷ 87 ∷ 86 ∷ 85 ∷ 84 ∷ 83 ∷ 82 ∷ 81 ∷ 80 ∷ 95 ∷ 94 ∷ 93 ∷ 92 ∷ 91 ∷ 90 ∷ 89 ∷ 88 ∷ 71 ∷ 70 ∷ 69 ∷ 68 ∷ 67 ∷ 66 ∷ 65 ∷ 64 ∷ 79 ∷ 78 ∷ 77 ∷ 76 ∷ 75 ∷ 74 ∷ 73 ∷ 72 ∷ 55 ∷ 54 ∷ 53 ∷ 52 ∷ 51 ∷ 50 ∷ 49 ∷ 48 ∷ 63 ∷ 62 ∷ 61 ∷ 60 ∷ 59 ∷ 58 ∷ 57 ∷ 56 ∷ 39 ∷ [])) (short_tag 65)) ∷ []) (Say.Drained 4)
    ∷ answered (Do.Post 0 0 (filled_line 21)) Say.Ok
    ∷ answered_with (Do.Drain 0) ((Seal 0 (ctr 0 18) (line_of (7 ∷ 6 ∷ 1 ∷ 0 ∷ 3 ∷ 2 ∷ 13 ∷ 12 ∷ 15 ∷ 14 ∷ 9 ∷ 8 ∷ 11 ∷ 10 ∷ 53 ∷ 52 ∷ 55 ∷ 54 ∷ 49 ∷ 48 ∷ 51 ∷ 50 ∷ 61 ∷ 60 ∷ 63 ∷ 62 ∷ 57 ∷ 56 ∷ 59 ∷ 58 ∷ 37 ∷ 36 ∷ 39 ∷ 38 ∷ 33 ∷ 32 ∷ 35 ∷ 34 ∷ 45 ∷ 44 ∷ 47 ∷ 46 ∷ 41 ∷ 40 ∷ 43 ∷ 42 ∷ 85 ∷ 84 ∷ 87 ∷ 86 ∷ 81 ∷ 80 ∷ 83 ∷ 82 ∷ 93 ∷ 92 ∷ 95 ∷ 94 ∷ 89 ∷ 88 ∷ 91 ∷ 90 ∷ 69 ∷ 68 ∷ [])) (short_tag 2)) ∷ []) (Say.Drained 4)
    ∷ answered (Do.Post 0 0 (filled_line 223)) Say.Ok
    ∷ answered_with (Do.Drain 0) ((Seal 0 (ctr 0 19) (line_of (204 ∷ 203 ∷ 202 ∷ 201 ∷ 200 ∷ 199 ∷ 198 ∷ 197 ∷ 196 ∷ 195 ∷ 194 ∷ 193 ∷ 192 ∷ 255 ∷ 254 ∷ 253 ∷ 252 ∷ 251 ∷ 250 ∷ 249 ∷ 248 ∷ 247 ∷ 246 ∷ 245 ∷ 244 ∷ 243 ∷ 242 ∷ 241 ∷ 240 ∷ 239 ∷ 238 ∷ 237 ∷ 236 ∷ 235 ∷ 234 ∷ 233 ∷ 232 ∷ 231 ∷ 230 ∷ 229 ∷ 228 ∷ 227 ∷ 226 ∷ 225 ∷ 224 ∷ 159 ∷ 158 ∷ 157 ∷ 156 ∷ 155 ∷ 154 ∷ 153 ∷ 152 ∷ 151 ∷ 150 ∷ 149 ∷ 148 ∷ 147 ∷ 146 ∷ 145 ∷ 144 ∷ 143 ∷ 142 ∷ 141 ∷ [])) (short_tag 67)) ∷ []) (Say.Drained 4)
    ∷ answered (Do.Post 0 0 (filled_line 208)) Say.Ok
    ∷ answered_with (Do.Drain 0) ((Seal 0 (ctr 0 20) (line_of (range_with_len 196 12 ++ range_with_len 240 16 ++ range_with_len 224 16 ++ range_with_len 144 16 ++ range_with_len 128 4)) (short_tag 4)) ∷ []) (Say.Drained 5)
    ∷ answered (Do.Post 0 0 (filled_line 226)) Say.Ok
    ∷ answered_with (Do.Drain 0) ((Seal 0 (ctr 0 21) (line_of (247 ∷ 244 ∷ 245 ∷ 250 ∷ 251 ∷ 248 ∷ 249 ∷ 254 ∷ 255 ∷ 252 ∷ 253 ∷ 194 ∷ 195 ∷ 192 ∷ 193 ∷ 198 ∷ 199 ∷ 196 ∷ 197 ∷ 202 ∷ 203 ∷ 200 ∷ 201 ∷ 206 ∷ 207 ∷ 204 ∷ 205 ∷ 210 ∷ 211 ∷ 208 ∷ 209 ∷ 214 ∷ 215 ∷ 212 ∷ 213 ∷ 218 ∷ 219 ∷ 216 ∷ 217 ∷ 222 ∷ 223 ∷ 220 ∷ 221 ∷ 162 ∷ 163 ∷ 160 ∷ 161 ∷ 166 ∷ 167 ∷ 164 ∷ 165 ∷ 170 ∷ 171 ∷ 168 ∷ 169 ∷ 174 ∷ 175 ∷ 172 ∷ 173 ∷ 178 ∷ 179 ∷ 176 ∷ 177 ∷ 182 ∷ [])) (short_tag 69)) ∷ []) (Say.Drained 4)
    ∷ answered (Do.Post 0 0 (filled_line 17)) Say.Ok
    ∷ answered_with (Do.Drain 0) ((Seal 0 (ctr 0 22) (line_of (7 ∷ 6 ∷ 9 ∷ 8 ∷ 11 ∷ 10 ∷ 13 ∷ 12 ∷ 15 ∷ 14 ∷ 49 ∷ 48 ∷ 51 ∷ 50 ∷ 53 ∷ 52 ∷ 55 ∷ 54 ∷ 57 ∷ 56 ∷ 59 ∷ 58 ∷ 61 ∷ 60 ∷ 63 ∷ 62 ∷ 33 ∷ 32 ∷ 35 ∷ 34 ∷ 37 ∷ 36 ∷ 39 ∷ 38 ∷ 41 ∷ 40 ∷ 43 ∷ 42 ∷ 45 ∷ 44 ∷ 47 ∷ 46 ∷ 81 ∷ 80 ∷ 83 ∷ 82 ∷ 85 ∷ 84 ∷ 87 ∷ 86 ∷ 89 ∷ 88 ∷ 91 ∷ 90 ∷ 93 ∷ 92 ∷ 95 ∷ 94 ∷ 65 ∷ 64 ∷ 67 ∷ 66 ∷ 69 ∷ 68 ∷ [])) (short_tag 6)) ∷ []) (Say.Drained 4)
    ∷ answered (Do.Post 0 0 (filled_line 168)) Say.Ok
    ∷ answered_with (Do.Drain 0) ((Seal 0 (ctr 0 23) (line_of (191 ∷ range_with_len 176 8 ++ range_with_len 136 8 ++ range_with_len 128 8 ++ range_with_len 152 8 ++ range_with_len 144 8 ++ range_with_len 232 8 ++ range_with_len 224 8 ++ range_with_len 248 7)) (short_tag 71)) ∷ []) (Say.Drained 4)
    ∷ answered (Do.Post 0 0 (filled_line 254)) Say.Ok
    ∷ answered_with (Do.Drain 0) ((Seal 0 (ctr 0 24) (line_of (230 ∷ 231 ∷ 228 ∷ 229 ∷ 226 ∷ 227 ∷ 224 ∷ 225 ∷ 222 ∷ 223 ∷ 220 ∷ 221 ∷ 218 ∷ 219 ∷ 216 ∷ 217 ∷ 214 ∷ 215 ∷ 212 ∷ 213 ∷ 210 ∷ 211 ∷ 208 ∷ 209 ∷ 206 ∷ 207 ∷ 204 ∷ 205 ∷ 202 ∷ 203 ∷ 200 ∷ 201 ∷ 198 ∷ 199 ∷ 196 ∷ 197 ∷ 194 ∷ 195 ∷ 192 ∷ 193 ∷ 190 ∷ 191 ∷ 188 ∷ 189 ∷ 186 ∷ 187 ∷ 184 ∷ 185 ∷ 182 ∷ 183 ∷ 180 ∷ 181 ∷ 178 ∷ 179 ∷ 176 ∷ 177 ∷ 174 ∷ 175 ∷ 172 ∷ 173 ∷ 170 ∷ 171 ∷ 168 ∷ 169 ∷ [])) (short_tag 8)) ∷ []) (Say.Drained 5)
    ∷ answered (Do.Post 0 0 (filled_line 59)) Say.Ok
    ∷ answered_with (Do.Drain 0) ((Seal 0 (ctr 0 25) (line_of (34 ∷ 33 ∷ 32 ∷ 39 ∷ 38 ∷ 37 ∷ 36 ∷ 27 ∷ 26 ∷ 25 ∷ 24 ∷ 31 ∷ 30 ∷ 29 ∷ 28 ∷ 19 ∷ 18 ∷ 17 ∷ 16 ∷ 23 ∷ 22 ∷ 21 ∷ 20 ∷ 11 ∷ 10 ∷ 9 ∷ 8 ∷ 15 ∷ 14 ∷ 13 ∷ 12 ∷ 3 ∷ 2 ∷ 1 ∷ 0 ∷ 7 ∷ 6 ∷ 5 ∷ 4 ∷ 123 ∷ 122 ∷ 121 ∷ 120 ∷ 127 ∷ 126 ∷ 125 ∷ 124 ∷ 115 ∷ 114 ∷ 113 ∷ 112 ∷ 119 ∷ 118 ∷ 117 ∷ 116 ∷ 107 ∷ 106 ∷ 105 ∷ 104 ∷ 111 ∷ 110 ∷ 109 ∷ 108 ∷ 99 ∷ [])) (short_tag 73)) ∷ []) (Say.Drained 4)
    ∷ answered (Do.Post 0 0 (filled_line 188)) Say.Ok
    ∷ answered_with (Do.Drain 0) ((Seal 0 (ctr 0 26) (line_of (166 ∷ 167 ∷ range_with_len 160 4 ++ range_with_len 156 4 ++ range_with_len 152 4 ++ range_with_len 148 4 ++ range_with_len 144 4 ++ range_with_len 140 4 ++ range_with_len 136 4 ++ range_with_len 132 4 ++ range_with_len 128 4 ++ range_with_len 252 4 ++ range_with_len 248 4 ++ range_with_len 244 4 ++ range_with_len 240 4 ++ range_with_len 236 4 ++ range_with_len 232 4 ++ 228 ∷ 229 ∷ [])) (short_tag 10)) ∷ []) (Say.Drained 4)
    ∷ answered (Do.Post 0 0 (filled_line 11)) Say.Ok
    ∷ answered_with (Do.Drain 0) ((Seal 0 (ctr 0 27) (line_of (16 ∷ 23 ∷ 22 ∷ 21 ∷ 20 ∷ 43 ∷ 42 ∷ 41 ∷ 40 ∷ 47 ∷ 46 ∷ 45 ∷ 44 ∷ 35 ∷ 34 ∷ 33 ∷ 32 ∷ 39 ∷ 38 ∷ 37 ∷ 36 ∷ 59 ∷ 58 ∷ 57 ∷ 56 ∷ 63 ∷ 62 ∷ 61 ∷ 60 ∷ 51 ∷ 50 ∷ 49 ∷ 48 ∷ 55 ∷ 54 ∷ 53 ∷ 52 ∷ 75 ∷ 74 ∷ 73 ∷ 72 ∷ 79 ∷ 78 ∷ 77 ∷ 76 ∷ 67 ∷ 66 ∷ 65 ∷ 64 ∷ 71 ∷ 70 ∷ 69 ∷ 68 ∷ 91 ∷ 90 ∷ 89 ∷ 88 ∷ 95 ∷ 94 ∷ 93 ∷ 92 ∷ 83 ∷ 82 ∷ 81 ∷ [])) (short_tag 75)) ∷ []) (Say.Drained 4)
    ∷ answered (Do.Post 0 0 (filled_line 79)) Say.Ok
    ∷ answered_with (Do.Drain 0) ((Seal 0 (ctr 0 28) (line_of (83 ∷ 82 ∷ 81 ∷ 80 ∷ 111 ∷ 110 ∷ 109 ∷ 108 ∷ 107 ∷ 106 ∷ 105 ∷ 104 ∷ 103 ∷ 102 ∷ 101 ∷ 100 ∷ 99 ∷ 98 ∷ 97 ∷ 96 ∷ 127 ∷ 126 ∷ 125 ∷ 124 ∷ 123 ∷ 122 ∷ 121 ∷ 120 ∷ 119 ∷ 118 ∷ 117 ∷ 116 ∷ 115 ∷ 114 ∷ 113 ∷ 112 ∷ 15 ∷ 14 ∷ 13 ∷ 12 ∷ 11 ∷ 10 ∷ 9 ∷ 8 ∷ 7 ∷ 6 ∷ 5 ∷ 4 ∷ 3 ∷ 2 ∷ 1 ∷ 0 ∷ 31 ∷ 30 ∷ 29 ∷ 28 ∷ 27 ∷ 26 ∷ 25 ∷ 24 ∷ 23 ∷ 22 ∷ 21 ∷ 20 ∷ [])) (short_tag 12)) ∷ []) (Say.Drained 5)
    ∷ answered (Do.Post 0 0 (filled_line 45)) Say.Ok
    ∷ answered_with (Do.Drain 0) ((Seal 0 (ctr 0 29) (line_of (48 ∷ 51 ∷ 50 ∷ 13 ∷ 12 ∷ 15 ∷ 14 ∷ 9 ∷ 8 ∷ 11 ∷ 10 ∷ 5 ∷ 4 ∷ 7 ∷ 6 ∷ 1 ∷ 0 ∷ 3 ∷ 2 ∷ 29 ∷ 28 ∷ 31 ∷ 30 ∷ 25 ∷ 24 ∷ 27 ∷ 26 ∷ 21 ∷ 20 ∷ 23 ∷ 22 ∷ 17 ∷ 16 ∷ 19 ∷ 18 ∷ 109 ∷ 108 ∷ 111 ∷ 110 ∷ 105 ∷ 104 ∷ 107 ∷ 106 ∷ 101 ∷ 100 ∷ 103 ∷ 102 ∷ 97 ∷ 96 ∷ 99 ∷ 98 ∷ 125 ∷ 124 ∷ 127 ∷ 126 ∷ 121 ∷ 120 ∷ 123 ∷ 122 ∷ 117 ∷ 116 ∷ 119 ∷ 118 ∷ 113 ∷ [])) (short_tag 77)) ∷ []) (Say.Drained 4)
    ∷ answered (Do.Post 0 0 (filled_line 63)) Say.Ok
    ∷ answered_with (Do.Drain 0) ((Seal 0 (ctr 0 30) (line_of (33 ∷ 32 ∷ 31 ∷ 30 ∷ 29 ∷ 28 ∷ 27 ∷ 26 ∷ 25 ∷ 24 ∷ 23 ∷ 22 ∷ 21 ∷ 20 ∷ 19 ∷ 18 ∷ 17 ∷ 16 ∷ 15 ∷ 14 ∷ 13 ∷ 12 ∷ 11 ∷ 10 ∷ 9 ∷ 8 ∷ 7 ∷ 6 ∷ 5 ∷ 4 ∷ 3 ∷ 2 ∷ 1 ∷ 0 ∷ 127 ∷ 126 ∷ 125 ∷ 124 ∷ 123 ∷ 122 ∷ 121 ∷ 120 ∷ 119 ∷ 118 ∷ 117 ∷ 116 ∷ 115 ∷ 114 ∷ 113 ∷ 112 ∷ 111 ∷ 110 ∷ 109 ∷ 108 ∷ 107 ∷ 106 ∷ 105 ∷ 104 ∷ 103 ∷ 102 ∷ 101 ∷ 100 ∷ 99 ∷ 98 ∷ [])) (short_tag 14)) ∷ []) (Say.Drained 4)
    ∷ answered (Do.Post 0 0 (filled_line 10)) Say.Ok
    ∷ answered_with (Do.Drain 0) ((Seal 0 (ctr 0 31) (line_of (21 ∷ 42 ∷ 43 ∷ 40 ∷ 41 ∷ 46 ∷ 47 ∷ 44 ∷ 45 ∷ 34 ∷ 35 ∷ 32 ∷ 33 ∷ 38 ∷ 39 ∷ 36 ∷ 37 ∷ 58 ∷ 59 ∷ 56 ∷ 57 ∷ 62 ∷ 63 ∷ 60 ∷ 61 ∷ 50 ∷ 51 ∷ 48 ∷ 49 ∷ 54 ∷ 55 ∷ 52 ∷ 53 ∷ 74 ∷ 75 ∷ 72 ∷ 73 ∷ 78 ∷ 79 ∷ 76 ∷ 77 ∷ 66 ∷ 67 ∷ 64 ∷ 65 ∷ 70 ∷ 71 ∷ 68 ∷ 69 ∷ 90 ∷ 91 ∷ 88 ∷ 89 ∷ 94 ∷ 95 ∷ 92 ∷ 93 ∷ 82 ∷ 83 ∷ 80 ∷ 81 ∷ 86 ∷ 87 ∷ 84 ∷ [])) (short_tag 79)) ∷ []) (Say.Drained 4)
    ∷ answered (Do.Post 0 0 (filled_line 232)) Say.Ok
    ∷ answered_with (Do.Drain 0) ((Seal 0 (ctr 0 32) (line_of (range_with_len 200 8 ++ range_with_len 192 8 ++ range_with_len 216 8 ++ range_with_len 208 8 ++ range_with_len 168 8 ++ range_with_len 160 8 ++ range_with_len 184 8 ++ range_with_len 176 8)) (short_tag 48)) ∷ []) (Say.Drained 5)
    ∷ answered (Do.Post 0 0 (filled_line 82)) Say.Ok
    ∷ answered_with (Do.Drain 0) ((Seal 0 (ctr 0 33) (line_of (115 ∷ 112 ∷ 113 ∷ 118 ∷ 119 ∷ 116 ∷ 117 ∷ 122 ∷ 123 ∷ 120 ∷ 121 ∷ 126 ∷ 127 ∷ 124 ∷ 125 ∷ 98 ∷ 99 ∷ 96 ∷ 97 ∷ 102 ∷ 103 ∷ 100 ∷ 101 ∷ 106 ∷ 107 ∷ 104 ∷ 105 ∷ 110 ∷ 111 ∷ 108 ∷ 109 ∷ 18 ∷ 19 ∷ 16 ∷ 17 ∷ 22 ∷ 23 ∷ 20 ∷ 21 ∷ 26 ∷ 27 ∷ 24 ∷ 25 ∷ 30 ∷ 31 ∷ 28 ∷ 29 ∷ 2 ∷ 3 ∷ 0 ∷ 1 ∷ 6 ∷ 7 ∷ 4 ∷ 5 ∷ 10 ∷ 11 ∷ 8 ∷ 9 ∷ 14 ∷ 15 ∷ 12 ∷ 13 ∷ 50 ∷ [])) (short_tag 113)) ∷ []) (Say.Drained 4)
    ∷ answered (Do.Post 0 0 (filled_line 175)) Say.Ok
    ∷ answered_with (Do.Drain 0) ((Seal 0 (ctr 0 34) (line_of (141 ∷ 140 ∷ 139 ∷ 138 ∷ 137 ∷ 136 ∷ 135 ∷ 134 ∷ 133 ∷ 132 ∷ 131 ∷ 130 ∷ 129 ∷ 128 ∷ 159 ∷ 158 ∷ 157 ∷ 156 ∷ 155 ∷ 154 ∷ 153 ∷ 152 ∷ 151 ∷ 150 ∷ 149 ∷ 148 ∷ 147 ∷ 146 ∷ 145 ∷ 144 ∷ 239 ∷ 238 ∷ 237 ∷ 236 ∷ 235 ∷ 234 ∷ 233 ∷ 232 ∷ 231 ∷ 230 ∷ 229 ∷ 228 ∷ 227 ∷ 226 ∷ 225 ∷ 224 ∷ 255 ∷ 254 ∷ 253 ∷ 252 ∷ 251 ∷ 250 ∷ 249 ∷ 248 ∷ 247 ∷ 246 ∷ 245 ∷ 244 ∷ 243 ∷ 242 ∷ 241 ∷ 240 ∷ 207 ∷ 206 ∷ [])) (short_tag 50)) ∷ []) (Say.Drained 4)
    ∷ answered (Do.Post 0 0 (filled_line 205)) Say.Ok
    ∷ answered_with (Do.Drain 0) ((Seal 0 (ctr 0 35) (line_of (238 ∷ 233 ∷ 232 ∷ 235 ∷ 234 ∷ 229 ∷ 228 ∷ 231 ∷ 230 ∷ 225 ∷ 224 ∷ 227 ∷ 226 ∷ 253 ∷ 252 ∷ 255 ∷ 254 ∷ 249 ∷ 248 ∷ 251 ∷ 250 ∷ 245 ∷ 244 ∷ 247 ∷ 246 ∷ 241 ∷ 240 ∷ 243 ∷ 242 ∷ 141 ∷ 140 ∷ 143 ∷ 142 ∷ 137 ∷ 136 ∷ 139 ∷ 138 ∷ 133 ∷ 132 ∷ 135 ∷ 134 ∷ 129 ∷ 128 ∷ 131 ∷ 130 ∷ 157 ∷ 156 ∷ 159 ∷ 158 ∷ 153 ∷ 152 ∷ 155 ∷ 154 ∷ 149 ∷ 148 ∷ 151 ∷ 150 ∷ 145 ∷ 144 ∷ 147 ∷ 146 ∷ 173 ∷ 172 ∷ 175 ∷ [])) (short_tag 115)) ∷ []) (Say.Drained 4)
    ∷ answered (Do.Post 0 0 (filled_line 248)) Say.Ok
    ∷ answered_with (Do.Drain 0) ((Seal 0 (ctr 0 36) (line_of (range_with_len 220 4 ++ range_with_len 208 8 ++ range_with_len 200 8 ++ range_with_len 192 8 ++ range_with_len 184 8 ++ range_with_len 176 8 ++ range_with_len 168 8 ++ range_with_len 160 8 ++ range_with_len 152 4)) (short_tag 52)) ∷ []) (Say.Drained 5)
    ∷ answered (Do.Post 0 0 (filled_line 77)) Say.Ok
    ∷ answered_with (Do.Drain 0) ((Seal 0 (ctr 0 37) (line_of (104 ∷ 107 ∷ 106 ∷ 101 ∷ 100 ∷ 103 ∷ 102 ∷ 97 ∷ 96 ∷ 99 ∷ 98 ∷ 125 ∷ 124 ∷ 127 ∷ 126 ∷ 121 ∷ 120 ∷ 123 ∷ 122 ∷ 117 ∷ 116 ∷ 119 ∷ 118 ∷ 113 ∷ 112 ∷ 115 ∷ 114 ∷ 13 ∷ 12 ∷ 15 ∷ 14 ∷ 9 ∷ 8 ∷ 11 ∷ 10 ∷ 5 ∷ 4 ∷ 7 ∷ 6 ∷ 1 ∷ 0 ∷ 3 ∷ 2 ∷ 29 ∷ 28 ∷ 31 ∷ 30 ∷ 25 ∷ 24 ∷ 27 ∷ 26 ∷ 21 ∷ 20 ∷ 23 ∷ 22 ∷ 17 ∷ 16 ∷ 19 ∷ 18 ∷ 45 ∷ 44 ∷ 47 ∷ 46 ∷ 41 ∷ [])) (short_tag 117)) ∷ []) (Say.Drained 4)
    ∷ answered (Do.Post 0 0 (filled_line 95)) Say.Ok
    ∷ answered_with (Do.Drain 0) ((Seal 0 (ctr 0 38) (line_of (121 ∷ 120 ∷ 119 ∷ 118 ∷ 117 ∷ 116 ∷ 115 ∷ 114 ∷ 113 ∷ 112 ∷ 111 ∷ 110 ∷ 109 ∷ 108 ∷ 107 ∷ 106 ∷ 105 ∷ 104 ∷ 103 ∷ 102 ∷ 101 ∷ 100 ∷ 99 ∷ 98 ∷ 97 ∷ 96 ∷ 31 ∷ 30 ∷ 29 ∷ 28 ∷ 27 ∷ 26 ∷ 25 ∷ 24 ∷ 23 ∷ 22 ∷ 21 ∷ 20 ∷ 19 ∷ 18 ∷ 17 ∷ 16 ∷ 15 ∷ 14 ∷ 13 ∷ 12 ∷ 11 ∷ 10 ∷ 9 ∷ 8 ∷ 7 ∷ 6 ∷ 5 ∷ 4 ∷ 3 ∷ 2 ∷ 1 ∷ 0 ∷ 63 ∷ 62 ∷ 61 ∷ 60 ∷ 59 ∷ 58 ∷ [])) (short_tag 54)) ∷ []) (Say.Drained 4)
    ∷ answered (Do.Post 0 0 (filled_line 19)) Say.Ok
    ∷ answered_with (Do.Drain 0) ((Seal 0 (ctr 0 39) (line_of (52 ∷ 59 ∷ 58 ∷ 57 ∷ 56 ∷ 63 ∷ 62 ∷ 61 ∷ 60 ∷ 35 ∷ 34 ∷ 33 ∷ 32 ∷ 39 ∷ 38 ∷ 37 ∷ 36 ∷ 43 ∷ 42 ∷ 41 ∷ 40 ∷ 47 ∷ 46 ∷ 45 ∷ 44 ∷ 83 ∷ 82 ∷ 81 ∷ 80 ∷ 87 ∷ 86 ∷ 85 ∷ 84 ∷ 91 ∷ 90 ∷ 89 ∷ 88 ∷ 95 ∷ 94 ∷ 93 ∷ 92 ∷ 67 ∷ 66 ∷ 65 ∷ 64 ∷ 71 ∷ 70 ∷ 69 ∷ 68 ∷ 75 ∷ 74 ∷ 73 ∷ 72 ∷ 79 ∷ 78 ∷ 77 ∷ 76 ∷ 115 ∷ 114 ∷ 113 ∷ 112 ∷ 119 ∷ 118 ∷ 117 ∷ [])) (short_tag 119)) ∷ []) (Say.Drained 4)
    ∷ answered (Do.Post 0 0 (filled_line 240)) Say.Ok
    ∷ answered_with (Do.Drain 0) ((Seal 0 (ctr 0 40) (line_of (range_with_len 216 8 ++ range_with_len 192 16 ++ range_with_len 176 16 ++ range_with_len 160 16 ++ range_with_len 144 8)) (short_tag 56)) ∷ []) (Say.Drained 5)
    ∷ answered (Do.Post 0 0 (filled_line 120)) Say.Ok
    ∷ answered_with (Do.Drain 0) ((Seal 0 (ctr 0 41) (line_of (range_with_len 81 7 ++ range_with_len 72 8 ++ range_with_len 64 8 ++ range_with_len 56 8 ++ range_with_len 48 8 ++ range_with_len 40 8 ++ range_with_len 32 8 ++ range_with_len 24 8 ++ 16 ∷ [])) (short_tag 121)) ∷ []) (Say.Drained 4)
    ∷ answered (Do.Post 0 0 (filled_line 38)) Say.Ok
    ∷ answered_with (Do.Drain 0) ((Seal 0 (ctr 0 42) (line_of (12 ∷ 13 ∷ 10 ∷ 11 ∷ 8 ∷ 9 ∷ 22 ∷ 23 ∷ 20 ∷ 21 ∷ 18 ∷ 19 ∷ 16 ∷ 17 ∷ 30 ∷ 31 ∷ 28 ∷ 29 ∷ 26 ∷ 27 ∷ 24 ∷ 25 ∷ 102 ∷ 103 ∷ 100 ∷ 101 ∷ 98 ∷ 99 ∷ 96 ∷ 97 ∷ 110 ∷ 111 ∷ 108 ∷ 109 ∷ 106 ∷ 107 ∷ 104 ∷ 105 ∷ 118 ∷ 119 ∷ 116 ∷ 117 ∷ 114 ∷ 115 ∷ 112 ∷ 113 ∷ 126 ∷ 127 ∷ 124 ∷ 125 ∷ 122 ∷ 123 ∷ 120 ∷ 121 ∷ 70 ∷ 71 ∷ 68 ∷ 69 ∷ 66 ∷ 67 ∷ 64 ∷ 65 ∷ 78 ∷ 79 ∷ [])) (short_tag 58)) ∷ []) (Say.Drained 4)
    ∷ answered (Do.Post 0 0 (filled_line 101)) Say.Ok
    ∷ answered_with (Do.Drain 0) ((Seal 0 (ctr 0 43) (line_of (78 ∷ 73 ∷ 72 ∷ 75 ∷ 74 ∷ 85 ∷ 84 ∷ 87 ∷ 86 ∷ 81 ∷ 80 ∷ 83 ∷ 82 ∷ 93 ∷ 92 ∷ 95 ∷ 94 ∷ 89 ∷ 88 ∷ 91 ∷ 90 ∷ 37 ∷ 36 ∷ 39 ∷ 38 ∷ 33 ∷ 32 ∷ 35 ∷ 34 ∷ 45 ∷ 44 ∷ 47 ∷ 46 ∷ 41 ∷ 40 ∷ 43 ∷ 42 ∷ 53 ∷ 52 ∷ 55 ∷ 54 ∷ 49 ∷ 48 ∷ 51 ∷ 50 ∷ 61 ∷ 60 ∷ 63 ∷ 62 ∷ 57 ∷ 56 ∷ 59 ∷ 58 ∷ 5 ∷ 4 ∷ 7 ∷ 6 ∷ 1 ∷ 0 ∷ 3 ∷ 2 ∷ 13 ∷ 12 ∷ 15 ∷ [])) (short_tag 123)) ∷ []) (Say.Drained 4)
    ∷ answered (Do.Post 0 0 (filled_line 106)) Say.Ok
    ∷ answered_with (Do.Drain 0) ((Seal 0 (ctr 0 44) (line_of (70 ∷ 71 ∷ 68 ∷ 69 ∷ 90 ∷ 91 ∷ 88 ∷ 89 ∷ 94 ∷ 95 ∷ 92 ∷ 93 ∷ 82 ∷ 83 ∷ 80 ∷ 81 ∷ 86 ∷ 87 ∷ 84 ∷ 85 ∷ 42 ∷ 43 ∷ 40 ∷ 41 ∷ 46 ∷ 47 ∷ 44 ∷ 45 ∷ 34 ∷ 35 ∷ 32 ∷ 33 ∷ 38 ∷ 39 ∷ 36 ∷ 37 ∷ 58 ∷ 59 ∷ 56 ∷ 57 ∷ 62 ∷ 63 ∷ 60 ∷ 61 ∷ 50 ∷ 51 ∷ 48 ∷ 49 ∷ 54 ∷ 55 ∷ 52 ∷ 53 ∷ 10 ∷ 11 ∷ 8 ∷ 9 ∷ 14 ∷ 15 ∷ 12 ∷ 13 ∷ 2 ∷ 3 ∷ 0 ∷ 1 ∷ [])) (short_tag 60)) ∷ []) (Say.Drained 5)
    ∷ answered (Do.Post 0 0 (filled_line 36)) Say.Ok
    ∷ answered_with (Do.Drain 0) ((Seal 0 (ctr 0 45) (line_of (9 ∷ 10 ∷ 11 ∷ range_with_len 20 4 ++ range_with_len 16 4 ++ range_with_len 28 4 ++ range_with_len 24 4 ++ range_with_len 100 4 ++ range_with_len 96 4 ++ range_with_len 108 4 ++ range_with_len 104 4 ++ range_with_len 116 4 ++ range_with_len 112 4 ++ range_with_len 124 4 ++ range_with_len 120 4 ++ range_with_len 68 4 ++ range_with_len 64 4 ++ range_with_len 76 4 ++ 72 ∷ [])) (short_tag 125)) ∷ []) (Say.Drained 4)
    ∷ answered (Do.Post 0 0 (filled_line 62)) Say.Ok
    ∷ answered_with (Do.Drain 0) ((Seal 0 (ctr 0 46) (line_of (16 ∷ 17 ∷ 14 ∷ 15 ∷ 12 ∷ 13 ∷ 10 ∷ 11 ∷ 8 ∷ 9 ∷ 6 ∷ 7 ∷ 4 ∷ 5 ∷ 2 ∷ 3 ∷ 0 ∷ 1 ∷ 126 ∷ 127 ∷ 124 ∷ 125 ∷ 122 ∷ 123 ∷ 120 ∷ 121 ∷ 118 ∷ 119 ∷ 116 ∷ 117 ∷ 114 ∷ 115 ∷ 112 ∷ 113 ∷ 110 ∷ 111 ∷ 108 ∷ 109 ∷ 106 ∷ 107 ∷ 104 ∷ 105 ∷ 102 ∷ 103 ∷ 100 ∷ 101 ∷ 98 ∷ 99 ∷ 96 ∷ 97 ∷ 94 ∷ 95 ∷ 92 ∷ 93 ∷ 90 ∷ 91 ∷ 88 ∷ 89 ∷ 86 ∷ 87 ∷ 84 ∷ 85 ∷ 82 ∷ 83 ∷ [])) (short_tag 62)) ∷ []) (Say.Drained 4)
    ∷ answered (Do.Post 0 0 (filled_line 243)) Say.Ok
    ∷ answered_with (Do.Drain 0) ((Seal 0 (ctr 0 47) (line_of (220 ∷ 195 ∷ 194 ∷ 193 ∷ 192 ∷ 199 ∷ 198 ∷ 197 ∷ 196 ∷ 203 ∷ 202 ∷ 201 ∷ 200 ∷ 207 ∷ 206 ∷ 205 ∷ 204 ∷ 179 ∷ 178 ∷ 177 ∷ 176 ∷ 183 ∷ 182 ∷ 181 ∷ 180 ∷ 187 ∷ 186 ∷ 185 ∷ 184 ∷ 191 ∷ 190 ∷ 189 ∷ 188 ∷ 163 ∷ 162 ∷ 161 ∷ 160 ∷ 167 ∷ 166 ∷ 165 ∷ 164 ∷ 171 ∷ 170 ∷ 169 ∷ 168 ∷ 175 ∷ 174 ∷ 173 ∷ 172 ∷ 147 ∷ 146 ∷ 145 ∷ 144 ∷ 151 ∷ 150 ∷ 149 ∷ 148 ∷ 155 ∷ 154 ∷ 153 ∷ 152 ∷ 159 ∷ 158 ∷ 157 ∷ [])) (short_tag 127)) ∷ []) (Say.Drained 4)
    ∷ answered (Do.Post 0 0 (filled_line 198)) Say.Ok
    ∷ answered_with (Do.Drain 0) ((Seal 0 (ctr 0 48) (line_of (246 ∷ 247 ∷ 244 ∷ 245 ∷ 242 ∷ 243 ∷ 240 ∷ 241 ∷ 254 ∷ 255 ∷ 252 ∷ 253 ∷ 250 ∷ 251 ∷ 248 ∷ 249 ∷ 134 ∷ 135 ∷ 132 ∷ 133 ∷ 130 ∷ 131 ∷ 128 ∷ 129 ∷ 142 ∷ 143 ∷ 140 ∷ 141 ∷ 138 ∷ 139 ∷ 136 ∷ 137 ∷ 150 ∷ 151 ∷ 148 ∷ 149 ∷ 146 ∷ 147 ∷ 144 ∷ 145 ∷ 158 ∷ 159 ∷ 156 ∷ 157 ∷ 154 ∷ 155 ∷ 152 ∷ 153 ∷ 166 ∷ 167 ∷ 164 ∷ 165 ∷ 162 ∷ 163 ∷ 160 ∷ 161 ∷ 174 ∷ 175 ∷ 172 ∷ 173 ∷ 170 ∷ 171 ∷ 168 ∷ 169 ∷ [])) (short_tag 32)) ∷ []) (Say.Drained 5)
    ∷ answered (Do.Post 0 0 (filled_line 102)) Say.Ok
    ∷ answered_with (Do.Drain 0) ((Seal 0 (ctr 0 49) (line_of (87 ∷ 84 ∷ 85 ∷ 82 ∷ 83 ∷ 80 ∷ 81 ∷ 94 ∷ 95 ∷ 92 ∷ 93 ∷ 90 ∷ 91 ∷ 88 ∷ 89 ∷ 38 ∷ 39 ∷ 36 ∷ 37 ∷ 34 ∷ 35 ∷ 32 ∷ 33 ∷ 46 ∷ 47 ∷ 44 ∷ 45 ∷ 42 ∷ 43 ∷ 40 ∷ 41 ∷ 54 ∷ 55 ∷ 52 ∷ 53 ∷ 50 ∷ 51 ∷ 48 ∷ 49 ∷ 62 ∷ 63 ∷ 60 ∷ 61 ∷ 58 ∷ 59 ∷ 56 ∷ 57 ∷ 6 ∷ 7 ∷ 4 ∷ 5 ∷ 2 ∷ 3 ∷ 0 ∷ 1 ∷ 14 ∷ 15 ∷ 12 ∷ 13 ∷ 10 ∷ 11 ∷ 8 ∷ 9 ∷ 22 ∷ [])) (short_tag 97)) ∷ []) (Say.Drained 4)
    ∷ answered (Do.Post 0 0 (filled_line 174)) Say.Ok
    ∷ answered_with (Do.Drain 0) ((Seal 0 (ctr 0 50) (line_of (156 ∷ 157 ∷ 154 ∷ 155 ∷ 152 ∷ 153 ∷ 150 ∷ 151 ∷ 148 ∷ 149 ∷ 146 ∷ 147 ∷ 144 ∷ 145 ∷ 238 ∷ 239 ∷ 236 ∷ 237 ∷ 234 ∷ 235 ∷ 232 ∷ 233 ∷ 230 ∷ 231 ∷ 228 ∷ 229 ∷ 226 ∷ 227 ∷ 224 ∷ 225 ∷ 254 ∷ 255 ∷ 252 ∷ 253 ∷ 250 ∷ 251 ∷ 248 ∷ 249 ∷ 246 ∷ 247 ∷ 244 ∷ 245 ∷ 242 ∷ 243 ∷ 240 ∷ 241 ∷ 206 ∷ 207 ∷ 204 ∷ 205 ∷ 202 ∷ 203 ∷ 200 ∷ 201 ∷ 198 ∷ 199 ∷ 196 ∷ 197 ∷ 194 ∷ 195 ∷ 192 ∷ 193 ∷ 222 ∷ 223 ∷ [])) (short_tag 34)) ∷ []) (Say.Drained 4)
    ∷ answered (Do.Post 0 0 (filled_line 74)) Say.Ok
    ∷ answered_with (Do.Drain 0) ((Seal 0 (ctr 0 51) (line_of (121 ∷ 126 ∷ 127 ∷ 124 ∷ 125 ∷ 114 ∷ 115 ∷ 112 ∷ 113 ∷ 118 ∷ 119 ∷ 116 ∷ 117 ∷ 10 ∷ 11 ∷ 8 ∷ 9 ∷ 14 ∷ 15 ∷ 12 ∷ 13 ∷ 2 ∷ 3 ∷ 0 ∷ 1 ∷ 6 ∷ 7 ∷ 4 ∷ 5 ∷ 26 ∷ 27 ∷ 24 ∷ 25 ∷ 30 ∷ 31 ∷ 28 ∷ 29 ∷ 18 ∷ 19 ∷ 16 ∷ 17 ∷ 22 ∷ 23 ∷ 20 ∷ 21 ∷ 42 ∷ 43 ∷ 40 ∷ 41 ∷ 46 ∷ 47 ∷ 44 ∷ 45 ∷ 34 ∷ 35 ∷ 32 ∷ 33 ∷ 38 ∷ 39 ∷ 36 ∷ 37 ∷ 58 ∷ 59 ∷ 56 ∷ [])) (short_tag 99)) ∷ []) (Say.Drained 4)
    ∷ answered (Do.Post 0 0 (filled_line 209)) Say.Ok
    ∷ answered_with (Do.Drain 0) ((Seal 0 (ctr 0 52) (line_of (229 ∷ 228 ∷ 231 ∷ 230 ∷ 233 ∷ 232 ∷ 235 ∷ 234 ∷ 237 ∷ 236 ∷ 239 ∷ 238 ∷ 145 ∷ 144 ∷ 147 ∷ 146 ∷ 149 ∷ 148 ∷ 151 ∷ 150 ∷ 153 ∷ 152 ∷ 155 ∷ 154 ∷ 157 ∷ 156 ∷ 159 ∷ 158 ∷ 129 ∷ 128 ∷ 131 ∷ 130 ∷ 133 ∷ 132 ∷ 135 ∷ 134 ∷ 137 ∷ 136 ∷ 139 ∷ 138 ∷ 141 ∷ 140 ∷ 143 ∷ 142 ∷ 177 ∷ 176 ∷ 179 ∷ 178 ∷ 181 ∷ 180 ∷ 183 ∷ 182 ∷ 185 ∷ 184 ∷ 187 ∷ 186 ∷ 189 ∷ 188 ∷ 191 ∷ 190 ∷ 161 ∷ 160 ∷ 163 ∷ 162 ∷ [])) (short_tag 36)) ∷ []) (Say.Drained 5)
    ∷ answered (Do.Post 0 0 (filled_line 149)) Say.Ok
    ∷ answered_with (Do.Drain 0) ((Seal 0 (ctr 0 53) (line_of (160 ∷ 163 ∷ 162 ∷ 173 ∷ 172 ∷ 175 ∷ 174 ∷ 169 ∷ 168 ∷ 171 ∷ 170 ∷ 213 ∷ 212 ∷ 215 ∷ 214 ∷ 209 ∷ 208 ∷ 211 ∷ 210 ∷ 221 ∷ 220 ∷ 223 ∷ 222 ∷ 217 ∷ 216 ∷ 219 ∷ 218 ∷ 197 ∷ 196 ∷ 199 ∷ 198 ∷ 193 ∷ 192 ∷ 195 ∷ 194 ∷ 205 ∷ 204 ∷ 207 ∷ 206 ∷ 201 ∷ 200 ∷ 203 ∷ 202 ∷ 245 ∷ 244 ∷ 247 ∷ 246 ∷ 241 ∷ 240 ∷ 243 ∷ 242 ∷ 253 ∷ 252 ∷ 255 ∷ 254 ∷ 249 ∷ 248 ∷ 251 ∷ 250 ∷ 229 ∷ 228 ∷ 231 ∷ 230 ∷ 225 ∷ [])) (short_tag 101)) ∷ []) (Say.Drained 4)
    ∷ answered (Do.Post 0 0 (filled_line 186)) Say.Ok
    ∷ answered_with (Do.Drain 0) ((Seal 0 (ctr 0 54) (line_of (140 ∷ 141 ∷ 130 ∷ 131 ∷ 128 ∷ 129 ∷ 134 ∷ 135 ∷ 132 ∷ 133 ∷ 250 ∷ 251 ∷ 248 ∷ 249 ∷ 254 ∷ 255 ∷ 252 ∷ 253 ∷ 242 ∷ 243 ∷ 240 ∷ 241 ∷ 246 ∷ 247 ∷ 244 ∷ 245 ∷ 234 ∷ 235 ∷ 232 ∷ 233 ∷ 238 ∷ 239 ∷ 236 ∷ 237 ∷ 226 ∷ 227 ∷ 224 ∷ 225 ∷ 230 ∷ 231 ∷ 228 ∷ 229 ∷ 218 ∷ 219 ∷ 216 ∷ 217 ∷ 222 ∷ 223 ∷ 220 ∷ 221 ∷ 210 ∷ 211 ∷ 208 ∷ 209 ∷ 214 ∷ 215 ∷ 212 ∷ 213 ∷ 202 ∷ 203 ∷ 200 ∷ 201 ∷ 206 ∷ 207 ∷ [])) (short_tag 38)) ∷ []) (Say.Drained 4)
    ∷ answered (Do.Post 0 0 (filled_line 231)) Say.Ok
    ∷ answered_with (Do.Drain 0) ((Seal 0 (ctr 0 55) (line_of (208 ∷ 223 ∷ 222 ∷ 221 ∷ 220 ∷ 219 ∷ 218 ∷ 217 ∷ 216 ∷ 167 ∷ 166 ∷ 165 ∷ 164 ∷ 163 ∷ 162 ∷ 161 ∷ 160 ∷ 175 ∷ 174 ∷ 173 ∷ 172 ∷ 171 ∷ 170 ∷ 169 ∷ 168 ∷ 183 ∷ 182 ∷ 181 ∷ 180 ∷ 179 ∷ 178 ∷ 177 ∷ 176 ∷ 191 ∷ 190 ∷ 189 ∷ 188 ∷ 187 ∷ 186 ∷ 185 ∷ 184 ∷ 135 ∷ 134 ∷ 133 ∷ 132 ∷ 131 ∷ 130 ∷ 129 ∷ 128 ∷ 143 ∷ 142 ∷ 141 ∷ 140 ∷ 139 ∷ 138 ∷ 137 ∷ 136 ∷ 151 ∷ 150 ∷ 149 ∷ 148 ∷ 147 ∷ 146 ∷ 145 ∷ [])) (short_tag 103)) ∷ []) (Say.Drained 4)
    ∷ answered (Do.Post 0 0 (filled_line 197)) Say.Ok
    ∷ answered_with (Do.Drain 0) ((Seal 0 (ctr 0 56) (line_of (253 ∷ 252 ∷ 255 ∷ 254 ∷ 249 ∷ 248 ∷ 251 ∷ 250 ∷ 133 ∷ 132 ∷ 135 ∷ 134 ∷ 129 ∷ 128 ∷ 131 ∷ 130 ∷ 141 ∷ 140 ∷ 143 ∷ 142 ∷ 137 ∷ 136 ∷ 139 ∷ 138 ∷ 149 ∷ 148 ∷ 151 ∷ 150 ∷ 145 ∷ 144 ∷ 147 ∷ 146 ∷ 157 ∷ 156 ∷ 159 ∷ 158 ∷ 153 ∷ 152 ∷ 155 ∷ 154 ∷ 165 ∷ 164 ∷ 167 ∷ 166 ∷ 161 ∷ 160 ∷ 163 ∷ 162 ∷ 173 ∷ 172 ∷ 175 ∷ 174 ∷ 169 ∷ 168 ∷ 171 ∷ 170 ∷ 181 ∷ 180 ∷ 183 ∷ 182 ∷ 177 ∷ 176 ∷ 179 ∷ 178 ∷ [])) (short_tag 40)) ∷ []) (Say.Drained 5)
    ∷ answered (Do.Post 0 0 (filled_line 162)) Say.Ok
    ∷ answered_with (Do.Drain 0) ((Seal 0 (ctr 0 57) (line_of (155 ∷ 152 ∷ 153 ∷ 158 ∷ 159 ∷ 156 ∷ 157 ∷ 226 ∷ 227 ∷ 224 ∷ 225 ∷ 230 ∷ 231 ∷ 228 ∷ 229 ∷ 234 ∷ 235 ∷ 232 ∷ 233 ∷ 238 ∷ 239 ∷ 236 ∷ 237 ∷ 242 ∷ 243 ∷ 240 ∷ 241 ∷ 246 ∷ 247 ∷ 244 ∷ 245 ∷ 250 ∷ 251 ∷ 248 ∷ 249 ∷ 254 ∷ 255 ∷ 252 ∷ 253 ∷ 194 ∷ 195 ∷ 192 ∷ 193 ∷ 198 ∷ 199 ∷ 196 ∷ 197 ∷ 202 ∷ 203 ∷ 200 ∷ 201 ∷ 206 ∷ 207 ∷ 204 ∷ 205 ∷ 210 ∷ 211 ∷ 208 ∷ 209 ∷ 214 ∷ 215 ∷ 212 ∷ 213 ∷ 218 ∷ [])) (short_tag 105)) ∷ []) (Say.Drained 4)
    ∷ answered (Do.Post 0 0 (filled_line 248)) Say.Ok
    ∷ answered_with (Do.Drain 0) ((Seal 0 (ctr 0 58) (line_of (range_with_len 194 6 ++ range_with_len 184 8 ++ range_with_len 176 8 ++ range_with_len 168 8 ++ range_with_len 160 8 ++ range_with_len 152 8 ++ range_with_len 144 8 ++ range_with_len 136 8 ++ 128 ∷ 129 ∷ [])) (short_tag 42)) ∷ []) (Say.Drained 4)
    ∷ answered (Do.Post 0 0 (filled_line 197)) Say.Ok
    ∷ answered_with (Do.Drain 0) ((Seal 0 (ctr 0 59) (line_of (254 ∷ 249 ∷ 248 ∷ 251 ∷ 250 ∷ 133 ∷ 132 ∷ 135 ∷ 134 ∷ 129 ∷ 128 ∷ 131 ∷ 130 ∷ 141 ∷ 140 ∷ 143 ∷ 142 ∷ 137 ∷ 136 ∷ 139 ∷ 138 ∷ 149 ∷ 148 ∷ 151 ∷ 150 ∷ 145 ∷ 144 ∷ 147 ∷ 146 ∷ 157 ∷ 156 ∷ 159 ∷ 158 ∷ 153 ∷ 152 ∷ 155 ∷ 154 ∷ 165 ∷ 164 ∷ 167 ∷ 166 ∷ 161 ∷ 160 ∷ 163 ∷ 162 ∷ 173 ∷ 172 ∷ 175 ∷ 174 ∷ 169 ∷ 168 ∷ 171 ∷ 170 ∷ 181 ∷ 180 ∷ 183 ∷ 182 ∷ 177 ∷ 176 ∷ 179 ∷ 178 ∷ 189 ∷ 188 ∷ 191 ∷ [])) (short_tag 107)) ∷ []) (Say.Drained 4)
    ∷ answered (Do.Post 0 0 (filled_line 136)) Say.Ok
    ∷ answered_with (Do.Drain 0) ((Seal 0 (ctr 0 60) (line_of (range_with_len 180 4 ++ range_with_len 200 8 ++ range_with_len 192 8 ++ range_with_len 216 8 ++ range_with_len 208 8 ++ range_with_len 232 8 ++ range_with_len 224 8 ++ range_with_len 248 8 ++ range_with_len 240 4)) (short_tag 44)) ∷ []) (Say.Drained 5)
    ∷ answered (Do.Post 0 0 (filled_line 13)) Say.Ok
    ∷ answered_with (Do.Drain 0) ((Seal 0 (ctr 0 61) (line_of (48 ∷ 51 ∷ 50 ∷ 77 ∷ 76 ∷ 79 ∷ 78 ∷ 73 ∷ 72 ∷ 75 ∷ 74 ∷ 69 ∷ 68 ∷ 71 ∷ 70 ∷ 65 ∷ 64 ∷ 67 ∷ 66 ∷ 93 ∷ 92 ∷ 95 ∷ 94 ∷ 89 ∷ 88 ∷ 91 ∷ 90 ∷ 85 ∷ 84 ∷ 87 ∷ 86 ∷ 81 ∷ 80 ∷ 83 ∷ 82 ∷ 109 ∷ 108 ∷ 111 ∷ 110 ∷ 105 ∷ 104 ∷ 107 ∷ 106 ∷ 101 ∷ 100 ∷ 103 ∷ 102 ∷ 97 ∷ 96 ∷ 99 ∷ 98 ∷ 125 ∷ 124 ∷ 127 ∷ 126 ∷ 121 ∷ 120 ∷ 123 ∷ 122 ∷ 117 ∷ 116 ∷ 119 ∷ 118 ∷ 113 ∷ [])) (short_tag 109)) ∷ []) (Say.Drained 4)
    ∷ answered (Do.Post 0 0 (filled_line 47)) Say.Ok
    ∷ answered_with (Do.Drain 0) ((Seal 0 (ctr 0 62) (line_of (17 ∷ 16 ∷ 111 ∷ 110 ∷ 109 ∷ 108 ∷ 107 ∷ 106 ∷ 105 ∷ 104 ∷ 103 ∷ 102 ∷ 101 ∷ 100 ∷ 99 ∷ 98 ∷ 97 ∷ 96 ∷ 127 ∷ 126 ∷ 125 ∷ 124 ∷ 123 ∷ 122 ∷ 121 ∷ 120 ∷ 119 ∷ 118 ∷ 117 ∷ 116 ∷ 115 ∷ 114 ∷ 113 ∷ 112 ∷ 79 ∷ 78 ∷ 77 ∷ 76 ∷ 75 ∷ 74 ∷ 73 ∷ 72 ∷ 71 ∷ 70 ∷ 69 ∷ 68 ∷ 67 ∷ 66 ∷ 65 ∷ 64 ∷ 95 ∷ 94 ∷ 93 ∷ 92 ∷ 91 ∷ 90 ∷ 89 ∷ 88 ∷ 87 ∷ 86 ∷ 85 ∷ 84 ∷ 83 ∷ 82 ∷ [])) (short_tag 46)) ∷ []) (Say.Drained 4)
    ∷ answered (Do.Post 0 0 (filled_line 81)) Say.Ok
    ∷ answered_with (Do.Drain 0) ((Seal 0 (ctr 0 63) (line_of (110 ∷ 17 ∷ 16 ∷ 19 ∷ 18 ∷ 21 ∷ 20 ∷ 23 ∷ 22 ∷ 25 ∷ 24 ∷ 27 ∷ 26 ∷ 29 ∷ 28 ∷ 31 ∷ 30 ∷ 1 ∷ 0 ∷ 3 ∷ 2 ∷ 5 ∷ 4 ∷ 7 ∷ 6 ∷ 9 ∷ 8 ∷ 11 ∷ 10 ∷ 13 ∷ 12 ∷ 15 ∷ 14 ∷ 49 ∷ 48 ∷ 51 ∷ 50 ∷ 53 ∷ 52 ∷ 55 ∷ 54 ∷ 57 ∷ 56 ∷ 59 ∷ 58 ∷ 61 ∷ 60 ∷ 63 ∷ 62 ∷ 33 ∷ 32 ∷ 35 ∷ 34 ∷ 37 ∷ 36 ∷ 39 ∷ 38 ∷ 41 ∷ 40 ∷ 43 ∷ 42 ∷ 45 ∷ 44 ∷ 47 ∷ [])) (short_tag 111)) ∷ []) (Say.Drained 4)
    ∷ answered (Do.Post 0 0 (filled_line 253)) Say.Ok
    ∷ answered_with (Do.Drain 0) ((Seal 0 (ctr 0 64) (line_of (189 ∷ 188 ∷ 191 ∷ 190 ∷ 185 ∷ 184 ∷ 187 ∷ 186 ∷ 181 ∷ 180 ∷ 183 ∷ 182 ∷ 177 ∷ 176 ∷ 179 ∷ 178 ∷ 173 ∷ 172 ∷ 175 ∷ 174 ∷ 169 ∷ 168 ∷ 171 ∷ 170 ∷ 165 ∷ 164 ∷ 167 ∷ 166 ∷ 161 ∷ 160 ∷ 163 ∷ 162 ∷ 157 ∷ 156 ∷ 159 ∷ 158 ∷ 153 ∷ 152 ∷ 155 ∷ 154 ∷ 149 ∷ 148 ∷ 151 ∷ 150 ∷ 145 ∷ 144 ∷ 147 ∷ 146 ∷ 141 ∷ 140 ∷ 143 ∷ 142 ∷ 137 ∷ 136 ∷ 139 ∷ 138 ∷ 133 ∷ 132 ∷ 135 ∷ 134 ∷ 129 ∷ 128 ∷ 131 ∷ 130 ∷ [])) (short_tag 80)) ∷ []) (Say.Drained 5)
    ∷ answered (Do.Post 0 0 (filled_line 1)) Say.Ok
    ∷ answered_with (Do.Drain 0) ((Seal 0 (ctr 0 65) (line_of (64 ∷ 67 ∷ 66 ∷ 69 ∷ 68 ∷ 71 ∷ 70 ∷ 73 ∷ 72 ∷ 75 ∷ 74 ∷ 77 ∷ 76 ∷ 79 ∷ 78 ∷ 81 ∷ 80 ∷ 83 ∷ 82 ∷ 85 ∷ 84 ∷ 87 ∷ 86 ∷ 89 ∷ 88 ∷ 91 ∷ 90 ∷ 93 ∷ 92 ∷ 95 ∷ 94 ∷ 97 ∷ 96 ∷ 99 ∷ 98 ∷ 101 ∷ 100 ∷ 103 ∷ 102 ∷ 105 ∷ 104 ∷ 107 ∷ 106 ∷ 109 ∷ 108 ∷ 111 ∷ 110 ∷ 113 ∷ 112 ∷ 115 ∷ 114 ∷ 117 ∷ 116 ∷ 119 ∷ 118 ∷ 121 ∷ 120 ∷ 123 ∷ 122 ∷ 125 ∷ 124 ∷ 127 ∷ 126 ∷ 129 ∷ [])) (short_tag 145)) ∷ []) (Say.Drained 4)
    ∷ answered (Do.Post 0 0 (filled_line 251)) Say.Ok
    ∷ answered_with (Do.Drain 0) ((Seal 0 (ctr 0 66) (line_of (185 ∷ 184 ∷ 191 ∷ 190 ∷ 189 ∷ 188 ∷ 179 ∷ 178 ∷ 177 ∷ 176 ∷ 183 ∷ 182 ∷ 181 ∷ 180 ∷ 171 ∷ 170 ∷ 169 ∷ 168 ∷ 175 ∷ 174 ∷ 173 ∷ 172 ∷ 163 ∷ 162 ∷ 161 ∷ 160 ∷ 167 ∷ 166 ∷ 165 ∷ 164 ∷ 155 ∷ 154 ∷ 153 ∷ 152 ∷ 159 ∷ 158 ∷ 157 ∷ 156 ∷ 147 ∷ 146 ∷ 145 ∷ 144 ∷ 151 ∷ 150 ∷ 149 ∷ 148 ∷ 139 ∷ 138 ∷ 137 ∷ 136 ∷ 143 ∷ 142 ∷ 141 ∷ 140 ∷ 131 ∷ 130 ∷ 129 ∷ 128 ∷ 135 ∷ 134 ∷ 133 ∷ 132 ∷ 123 ∷ 122 ∷ [])) (short_tag 82)) ∷ []) (Say.Drained 4)
    ∷ answered (Do.Post 0 0 (filled_line 35)) Say.Ok
    ∷ answered_with (Do.Drain 0) ((Seal 0 (ctr 0 67) (line_of (96 ∷ 103 ∷ 102 ∷ 101 ∷ 100 ∷ 107 ∷ 106 ∷ 105 ∷ 104 ∷ 111 ∷ 110 ∷ 109 ∷ 108 ∷ 115 ∷ 114 ∷ 113 ∷ 112 ∷ 119 ∷ 118 ∷ 117 ∷ 116 ∷ 123 ∷ 122 ∷ 121 ∷ 120 ∷ 127 ∷ 126 ∷ 125 ∷ 124 ∷ 67 ∷ 66 ∷ 65 ∷ 64 ∷ 71 ∷ 70 ∷ 69 ∷ 68 ∷ 75 ∷ 74 ∷ 73 ∷ 72 ∷ 79 ∷ 78 ∷ 77 ∷ 76 ∷ 83 ∷ 82 ∷ 81 ∷ 80 ∷ 87 ∷ 86 ∷ 85 ∷ 84 ∷ 91 ∷ 90 ∷ 89 ∷ 88 ∷ 95 ∷ 94 ∷ 93 ∷ 92 ∷ 163 ∷ 162 ∷ 161 ∷ [])) (short_tag 147)) ∷ []) (Say.Drained 4)
    ∷ answered (Do.Post 0 0 (filled_line 113)) Say.Ok
    ∷ answered_with (Do.Drain 0) ((Seal 0 (ctr 0 68) (line_of (53 ∷ 52 ∷ 55 ∷ 54 ∷ 57 ∷ 56 ∷ 59 ∷ 58 ∷ 61 ∷ 60 ∷ 63 ∷ 62 ∷ 33 ∷ 32 ∷ 35 ∷ 34 ∷ 37 ∷ 36 ∷ 39 ∷ 38 ∷ 41 ∷ 40 ∷ 43 ∷ 42 ∷ 45 ∷ 44 ∷ 47 ∷ 46 ∷ 17 ∷ 16 ∷ 19 ∷ 18 ∷ 21 ∷ 20 ∷ 23 ∷ 22 ∷ 25 ∷ 24 ∷ 27 ∷ 26 ∷ 29 ∷ 28 ∷ 31 ∷ 30 ∷ 1 ∷ 0 ∷ 3 ∷ 2 ∷ 5 ∷ 4 ∷ 7 ∷ 6 ∷ 9 ∷ 8 ∷ 11 ∷ 10 ∷ 13 ∷ 12 ∷ 15 ∷ 14 ∷ 241 ∷ 240 ∷ 243 ∷ 242 ∷ [])) (short_tag 84)) ∷ []) (Say.Drained 5)
    ∷ answered (Do.Post 0 0 (filled_line 163)) Say.Ok
    ∷ answered_with (Do.Drain 0) ((Seal 0 (ctr 0 69) (line_of (230 ∷ 229 ∷ 228 ∷ 235 ∷ 234 ∷ 233 ∷ 232 ∷ 239 ∷ 238 ∷ 237 ∷ 236 ∷ 243 ∷ 242 ∷ 241 ∷ 240 ∷ 247 ∷ 246 ∷ 245 ∷ 244 ∷ 251 ∷ 250 ∷ 249 ∷ 248 ∷ 255 ∷ 254 ∷ 253 ∷ 252 ∷ 195 ∷ 194 ∷ 193 ∷ 192 ∷ 199 ∷ 198 ∷ 197 ∷ 196 ∷ 203 ∷ 202 ∷ 201 ∷ 200 ∷ 207 ∷ 206 ∷ 205 ∷ 204 ∷ 211 ∷ 210 ∷ 209 ∷ 208 ∷ 215 ∷ 214 ∷ 213 ∷ 212 ∷ 219 ∷ 218 ∷ 217 ∷ 216 ∷ 223 ∷ 222 ∷ 221 ∷ 220 ∷ 35 ∷ 34 ∷ 33 ∷ 32 ∷ 39 ∷ [])) (short_tag 149)) ∷ []) (Say.Drained 4)
    ∷ answered (Do.Post 0 0 (filled_line 57)) Say.Ok
    ∷ answered_with (Do.Drain 0) ((Seal 0 (ctr 0 70) (line_of (127 ∷ 126 ∷ 113 ∷ 112 ∷ 115 ∷ 114 ∷ 117 ∷ 116 ∷ 119 ∷ 118 ∷ 105 ∷ 104 ∷ 107 ∷ 106 ∷ 109 ∷ 108 ∷ 111 ∷ 110 ∷ 97 ∷ 96 ∷ 99 ∷ 98 ∷ 101 ∷ 100 ∷ 103 ∷ 102 ∷ 89 ∷ 88 ∷ 91 ∷ 90 ∷ 93 ∷ 92 ∷ 95 ∷ 94 ∷ 81 ∷ 80 ∷ 83 ∷ 82 ∷ 85 ∷ 84 ∷ 87 ∷ 86 ∷ 73 ∷ 72 ∷ 75 ∷ 74 ∷ 77 ∷ 76 ∷ 79 ∷ 78 ∷ 65 ∷ 64 ∷ 67 ∷ 66 ∷ 69 ∷ 68 ∷ 71 ∷ 70 ∷ 185 ∷ 184 ∷ 187 ∷ 186 ∷ 189 ∷ 188 ∷ [])) (short_tag 86)) ∷ []) (Say.Drained 4)
    ∷ answered (Do.Post 0 0 (filled_line 92)) Say.Ok
    ∷ answered_with (Do.Drain 0) ((Seal 0 (ctr 0 71) (line_of (27 ∷ range_with_len 20 4 ++ range_with_len 16 4 ++ range_with_len 12 4 ++ range_with_len 8 4 ++ range_with_len 4 4 ++ range_with_len 0 4 ++ range_with_len 60 4 ++ range_with_len 56 4 ++ range_with_len 52 4 ++ range_with_len 48 4 ++ range_with_len 44 4 ++ range_with_len 40 4 ++ range_with_len 36 4 ++ range_with_len 32 4 ++ range_with_len 220 4 ++ 216 ∷ 217 ∷ 218 ∷ [])) (short_tag 151)) ∷ []) (Say.Drained 4)
    ∷ answered (Do.Post 0 0 (filled_line 87)) Say.Ok
    ∷ answered_with (Do.Drain 0) ((Seal 0 (ctr 0 72) (line_of (31 ∷ 30 ∷ 29 ∷ 28 ∷ 27 ∷ 26 ∷ 25 ∷ 24 ∷ 7 ∷ 6 ∷ 5 ∷ 4 ∷ 3 ∷ 2 ∷ 1 ∷ 0 ∷ 15 ∷ 14 ∷ 13 ∷ 12 ∷ 11 ∷ 10 ∷ 9 ∷ 8 ∷ 55 ∷ 54 ∷ 53 ∷ 52 ∷ 51 ∷ 50 ∷ 49 ∷ 48 ∷ 63 ∷ 62 ∷ 61 ∷ 60 ∷ 59 ∷ 58 ∷ 57 ∷ 56 ∷ 39 ∷ 38 ∷ 37 ∷ 36 ∷ 35 ∷ 34 ∷ 33 ∷ 32 ∷ 47 ∷ 46 ∷ 45 ∷ 44 ∷ 43 ∷ 42 ∷ 41 ∷ 40 ∷ 215 ∷ 214 ∷ 213 ∷ 212 ∷ 211 ∷ 210 ∷ 209 ∷ 208 ∷ [])) (short_tag 88)) ∷ []) (Say.Drained 5)
    ∷ answered (Do.Post 0 0 (filled_line 178)) Say.Ok
    ∷ answered_with (Do.Drain 0) ((Seal 0 (ctr 0 73) (line_of (251 ∷ 248 ∷ 249 ∷ 254 ∷ 255 ∷ 252 ∷ 253 ∷ 226 ∷ 227 ∷ 224 ∷ 225 ∷ 230 ∷ 231 ∷ 228 ∷ 229 ∷ 234 ∷ 235 ∷ 232 ∷ 233 ∷ 238 ∷ 239 ∷ 236 ∷ 237 ∷ 210 ∷ 211 ∷ 208 ∷ 209 ∷ 214 ∷ 215 ∷ 212 ∷ 213 ∷ 218 ∷ 219 ∷ 216 ∷ 217 ∷ 222 ∷ 223 ∷ 220 ∷ 221 ∷ 194 ∷ 195 ∷ 192 ∷ 193 ∷ 198 ∷ 199 ∷ 196 ∷ 197 ∷ 202 ∷ 203 ∷ 200 ∷ 201 ∷ 206 ∷ 207 ∷ 204 ∷ 205 ∷ 50 ∷ 51 ∷ 48 ∷ 49 ∷ 54 ∷ 55 ∷ 52 ∷ 53 ∷ 58 ∷ [])) (short_tag 153)) ∷ []) (Say.Drained 4)
    ∷ answered (Do.Post 0 0 (filled_line 170)) Say.Ok
    ∷ answered_with (Do.Drain 0) ((Seal 0 (ctr 0 74) (line_of (224 ∷ 225 ∷ 230 ∷ 231 ∷ 228 ∷ 229 ∷ 250 ∷ 251 ∷ 248 ∷ 249 ∷ 254 ∷ 255 ∷ 252 ∷ 253 ∷ 242 ∷ 243 ∷ 240 ∷ 241 ∷ 246 ∷ 247 ∷ 244 ∷ 245 ∷ 202 ∷ 203 ∷ 200 ∷ 201 ∷ 206 ∷ 207 ∷ 204 ∷ 205 ∷ 194 ∷ 195 ∷ 192 ∷ 193 ∷ 198 ∷ 199 ∷ 196 ∷ 197 ∷ 218 ∷ 219 ∷ 216 ∷ 217 ∷ 222 ∷ 223 ∷ 220 ∷ 221 ∷ 210 ∷ 211 ∷ 208 ∷ 209 ∷ 214 ∷ 215 ∷ 212 ∷ 213 ∷ 42 ∷ 43 ∷ 40 ∷ 41 ∷ 46 ∷ 47 ∷ 44 ∷ 45 ∷ 34 ∷ 35 ∷ [])) (short_tag 90)) ∷ []) (Say.Drained 4)
    ∷ answered (Do.Post 0 0 (filled_line 177)) Say.Ok
    ∷ answered_with (Do.Drain 0) ((Seal 0 (ctr 0 75) (line_of (250 ∷ 253 ∷ 252 ∷ 255 ∷ 254 ∷ 225 ∷ 224 ∷ 227 ∷ 226 ∷ 229 ∷ 228 ∷ 231 ∷ 230 ∷ 233 ∷ 232 ∷ 235 ∷ 234 ∷ 237 ∷ 236 ∷ 239 ∷ 238 ∷ 209 ∷ 208 ∷ 211 ∷ 210 ∷ 213 ∷ 212 ∷ 215 ∷ 214 ∷ 217 ∷ 216 ∷ 219 ∷ 218 ∷ 221 ∷ 220 ∷ 223 ∷ 222 ∷ 193 ∷ 192 ∷ 195 ∷ 194 ∷ 197 ∷ 196 ∷ 199 ∷ 198 ∷ 201 ∷ 200 ∷ 203 ∷ 202 ∷ 205 ∷ 204 ∷ 207 ∷ 206 ∷ 49 ∷ 48 ∷ 51 ∷ 50 ∷ 53 ∷ 52 ∷ 55 ∷ 54 ∷ 57 ∷ 56 ∷ 59 ∷ [])) (short_tag 155)) ∷ []) (Say.Drained 4)
    ∷ answered (Do.Post 0 0 (filled_line 156)) Say.Ok
    ∷ answered_with (Do.Drain 0) ((Seal 0 (ctr 0 76) (line_of (range_with_len 208 4 ++ range_with_len 204 4 ++ range_with_len 200 4 ++ range_with_len 196 4 ++ range_with_len 192 4 ++ range_with_len 252 4 ++ range_with_len 248 4 ++ range_with_len 244 4 ++ range_with_len 240 4 ++ range_with_len 236 4 ++ range_with_len 232 4 ++ range_with_len 228 4 ++ range_with_len 224 4 ++ range_with_len 28 4 ++ range_with_len 24 4 ++ range_with_len 20 4)) (short_tag 92)) ∷ []) (Say.Drained 5)
    ∷ answered (Do.Post 0 0 (filled_line 125)) Say.Ok
    ∷ answered_with (Do.Drain 0) ((Seal 0 (ctr 0 77) (line_of (48 ∷ 51 ∷ 50 ∷ 45 ∷ 44 ∷ 47 ∷ 46 ∷ 41 ∷ 40 ∷ 43 ∷ 42 ∷ 37 ∷ 36 ∷ 39 ∷ 38 ∷ 33 ∷ 32 ∷ 35 ∷ 34 ∷ 29 ∷ 28 ∷ 31 ∷ 30 ∷ 25 ∷ 24 ∷ 27 ∷ 26 ∷ 21 ∷ 20 ∷ 23 ∷ 22 ∷ 17 ∷ 16 ∷ 19 ∷ 18 ∷ 13 ∷ 12 ∷ 15 ∷ 14 ∷ 9 ∷ 8 ∷ 11 ∷ 10 ∷ 5 ∷ 4 ∷ 7 ∷ 6 ∷ 1 ∷ 0 ∷ 3 ∷ 2 ∷ 253 ∷ 252 ∷ 255 ∷ 254 ∷ 249 ∷ 248 ∷ 251 ∷ 250 ∷ 245 ∷ 244 ∷ 247 ∷ 246 ∷ 241 ∷ [])) (short_tag 157)) ∷ []) (Say.Drained 4)
    ∷ answered (Do.Post 0 0 (filled_line 52)) Say.Ok
    ∷ answered_with (Do.Drain 0) ((Seal 0 (ctr 0 78) (line_of (122 ∷ 123 ∷ range_with_len 100 4 ++ range_with_len 96 4 ++ range_with_len 108 4 ++ range_with_len 104 4 ++ range_with_len 84 4 ++ range_with_len 80 4 ++ range_with_len 92 4 ++ range_with_len 88 4 ++ range_with_len 68 4 ++ range_with_len 64 4 ++ range_with_len 76 4 ++ range_with_len 72 4 ++ range_with_len 180 4 ++ range_with_len 176 4 ++ range_with_len 188 4 ++ 184 ∷ 185 ∷ [])) (short_tag 94)) ∷ []) (Say.Drained 4)
    ∷ answered (Do.Post 0 0 (filled_line 86)) Say.Ok
    ∷ answered_with (Do.Drain 0) ((Seal 0 (ctr 0 79) (line_of (25 ∷ 6 ∷ 7 ∷ 4 ∷ 5 ∷ 2 ∷ 3 ∷ 0 ∷ 1 ∷ 14 ∷ 15 ∷ 12 ∷ 13 ∷ 10 ∷ 11 ∷ 8 ∷ 9 ∷ 54 ∷ 55 ∷ 52 ∷ 53 ∷ 50 ∷ 51 ∷ 48 ∷ 49 ∷ 62 ∷ 63 ∷ 60 ∷ 61 ∷ 58 ∷ 59 ∷ 56 ∷ 57 ∷ 38 ∷ 39 ∷ 36 ∷ 37 ∷ 34 ∷ 35 ∷ 32 ∷ 33 ∷ 46 ∷ 47 ∷ 44 ∷ 45 ∷ 42 ∷ 43 ∷ 40 ∷ 41 ∷ 214 ∷ 215 ∷ 212 ∷ 213 ∷ 210 ∷ 211 ∷ 208 ∷ 209 ∷ 222 ∷ 223 ∷ 220 ∷ 221 ∷ 218 ∷ 219 ∷ 216 ∷ [])) (short_tag 159)) ∷ []) (Say.Drained 4)
    ∷ answered (Do.Post 0 0 (filled_line 33)) Say.Ok
    ∷ answered_with (Do.Drain 0) ((Seal 0 (ctr 0 80) (line_of (113 ∷ 112 ∷ 115 ∷ 114 ∷ 117 ∷ 116 ∷ 119 ∷ 118 ∷ 121 ∷ 120 ∷ 123 ∷ 122 ∷ 125 ∷ 124 ∷ 127 ∷ 126 ∷ 65 ∷ 64 ∷ 67 ∷ 66 ∷ 69 ∷ 68 ∷ 71 ∷ 70 ∷ 73 ∷ 72 ∷ 75 ∷ 74 ∷ 77 ∷ 76 ∷ 79 ∷ 78 ∷ 81 ∷ 80 ∷ 83 ∷ 82 ∷ 85 ∷ 84 ∷ 87 ∷ 86 ∷ 89 ∷ 88 ∷ 91 ∷ 90 ∷ 93 ∷ 92 ∷ 95 ∷ 94 ∷ 161 ∷ 160 ∷ 163 ∷ 162 ∷ 165 ∷ 164 ∷ 167 ∷ 166 ∷ 169 ∷ 168 ∷ 171 ∷ 170 ∷ 173 ∷ 172 ∷ 175 ∷ 174 ∷ [])) (short_tag 64)) ∷ []) (Say.Drained 5)
    ∷ answered (Do.Post 0 0 (filled_line 89)) Say.Ok
    ∷ answered_with (Do.Drain 0) ((Seal 0 (ctr 0 81) (line_of (8 ∷ 11 ∷ 10 ∷ 13 ∷ 12 ∷ 15 ∷ 14 ∷ 1 ∷ 0 ∷ 3 ∷ 2 ∷ 5 ∷ 4 ∷ 7 ∷ 6 ∷ 57 ∷ 56 ∷ 59 ∷ 58 ∷ 61 ∷ 60 ∷ 63 ∷ 62 ∷ 49 ∷ 48 ∷ 51 ∷ 50 ∷ 53 ∷ 52 ∷ 55 ∷ 54 ∷ 41 ∷ 40 ∷ 43 ∷ 42 ∷ 45 ∷ 44 ∷ 47 ∷ 46 ∷ 33 ∷ 32 ∷ 35 ∷ 34 ∷ 37 ∷ 36 ∷ 39 ∷ 38 ∷ 217 ∷ 216 ∷ 219 ∷ 218 ∷ 221 ∷ 220 ∷ 223 ∷ 222 ∷ 209 ∷ 208 ∷ 211 ∷ 210 ∷ 213 ∷ 212 ∷ 215 ∷ 214 ∷ 201 ∷ [])) (short_tag 129)) ∷ []) (Say.Drained 4)
    ∷ answered (Do.Post 0 0 (filled_line 219)) Say.Ok
    ∷ answered_with (Do.Drain 0) ((Seal 0 (ctr 0 82) (line_of (137 ∷ 136 ∷ 143 ∷ 142 ∷ 141 ∷ 140 ∷ 131 ∷ 130 ∷ 129 ∷ 128 ∷ 135 ∷ 134 ∷ 133 ∷ 132 ∷ 187 ∷ 186 ∷ 185 ∷ 184 ∷ 191 ∷ 190 ∷ 189 ∷ 188 ∷ 179 ∷ 178 ∷ 177 ∷ 176 ∷ 183 ∷ 182 ∷ 181 ∷ 180 ∷ 171 ∷ 170 ∷ 169 ∷ 168 ∷ 175 ∷ 174 ∷ 173 ∷ 172 ∷ 163 ∷ 162 ∷ 161 ∷ 160 ∷ 167 ∷ 166 ∷ 165 ∷ 164 ∷ 91 ∷ 90 ∷ 89 ∷ 88 ∷ 95 ∷ 94 ∷ 93 ∷ 92 ∷ 83 ∷ 82 ∷ 81 ∷ 80 ∷ 87 ∷ 86 ∷ 85 ∷ 84 ∷ 75 ∷ 74 ∷ [])) (short_tag 66)) ∷ []) (Say.Drained 4)
    ∷ answered (Do.Post 0 0 (filled_line 191)) Say.Ok
    ∷ answered_with (Do.Drain 0) ((Seal 0 (ctr 0 83) (line_of (236 ∷ 235 ∷ 234 ∷ 233 ∷ 232 ∷ 231 ∷ 230 ∷ 229 ∷ 228 ∷ 227 ∷ 226 ∷ 225 ∷ 224 ∷ 223 ∷ 222 ∷ 221 ∷ 220 ∷ 219 ∷ 218 ∷ 217 ∷ 216 ∷ 215 ∷ 214 ∷ 213 ∷ 212 ∷ 211 ∷ 210 ∷ 209 ∷ 208 ∷ 207 ∷ 206 ∷ 205 ∷ 204 ∷ 203 ∷ 202 ∷ 201 ∷ 200 ∷ 199 ∷ 198 ∷ 197 ∷ 196 ∷ 195 ∷ 194 ∷ 193 ∷ 192 ∷ 63 ∷ 62 ∷ 61 ∷ 60 ∷ 59 ∷ 58 ∷ 57 ∷ 56 ∷ 55 ∷ 54 ∷ 53 ∷ 52 ∷ 51 ∷ 50 ∷ 49 ∷ 48 ∷ 47 ∷ 46 ∷ 45 ∷ [])) (short_tag 131)) ∷ []) (Say.Drained 4)
    ∷ answered (Do.Post 0 0 (filled_line 81)) Say.Ok
    ∷ answered_with (Do.Drain 0) ((Seal 0 (ctr 0 84) (line_of (5 ∷ 4 ∷ 7 ∷ 6 ∷ 9 ∷ 8 ∷ 11 ∷ 10 ∷ 13 ∷ 12 ∷ 15 ∷ 14 ∷ 49 ∷ 48 ∷ 51 ∷ 50 ∷ 53 ∷ 52 ∷ 55 ∷ 54 ∷ 57 ∷ 56 ∷ 59 ∷ 58 ∷ 61 ∷ 60 ∷ 63 ∷ 62 ∷ 33 ∷ 32 ∷ 35 ∷ 34 ∷ 37 ∷ 36 ∷ 39 ∷ 38 ∷ 41 ∷ 40 ∷ 43 ∷ 42 ∷ 45 ∷ 44 ∷ 47 ∷ 46 ∷ 209 ∷ 208 ∷ 211 ∷ 210 ∷ 213 ∷ 212 ∷ 215 ∷ 214 ∷ 217 ∷ 216 ∷ 219 ∷ 218 ∷ 221 ∷ 220 ∷ 223 ∷ 222 ∷ 193 ∷ 192 ∷ 195 ∷ 194 ∷ [])) (short_tag 68)) ∷ []) (Say.Drained 5)
    ∷ answered (Do.Post 0 0 (filled_line 18)) Say.Ok
    ∷ answered_with (Do.Drain 0) ((Seal 0 (ctr 0 85) (line_of (71 ∷ 68 ∷ 69 ∷ 74 ∷ 75 ∷ 72 ∷ 73 ∷ 78 ∷ 79 ∷ 76 ∷ 77 ∷ 114 ∷ 115 ∷ 112 ∷ 113 ∷ 118 ∷ 119 ∷ 116 ∷ 117 ∷ 122 ∷ 123 ∷ 120 ∷ 121 ∷ 126 ∷ 127 ∷ 124 ∷ 125 ∷ 98 ∷ 99 ∷ 96 ∷ 97 ∷ 102 ∷ 103 ∷ 100 ∷ 101 ∷ 106 ∷ 107 ∷ 104 ∷ 105 ∷ 110 ∷ 111 ∷ 108 ∷ 109 ∷ 146 ∷ 147 ∷ 144 ∷ 145 ∷ 150 ∷ 151 ∷ 148 ∷ 149 ∷ 154 ∷ 155 ∷ 152 ∷ 153 ∷ 158 ∷ 159 ∷ 156 ∷ 157 ∷ 130 ∷ 131 ∷ 128 ∷ 129 ∷ 134 ∷ [])) (short_tag 133)) ∷ []) (Say.Drained 4)
    ∷ answered (Do.Post 0 0 (filled_line 123)) Say.Ok
    ∷ answered_with (Do.Drain 0) ((Seal 0 (ctr 0 86) (line_of (45 ∷ 44 ∷ 35 ∷ 34 ∷ 33 ∷ 32 ∷ 39 ∷ 38 ∷ 37 ∷ 36 ∷ 27 ∷ 26 ∷ 25 ∷ 24 ∷ 31 ∷ 30 ∷ 29 ∷ 28 ∷ 19 ∷ 18 ∷ 17 ∷ 16 ∷ 23 ∷ 22 ∷ 21 ∷ 20 ∷ 11 ∷ 10 ∷ 9 ∷ 8 ∷ 15 ∷ 14 ∷ 13 ∷ 12 ∷ 3 ∷ 2 ∷ 1 ∷ 0 ∷ 7 ∷ 6 ∷ 5 ∷ 4 ∷ 251 ∷ 250 ∷ 249 ∷ 248 ∷ 255 ∷ 254 ∷ 253 ∷ 252 ∷ 243 ∷ 242 ∷ 241 ∷ 240 ∷ 247 ∷ 246 ∷ 245 ∷ 244 ∷ 235 ∷ 234 ∷ 233 ∷ 232 ∷ 239 ∷ 238 ∷ [])) (short_tag 70)) ∷ []) (Say.Drained 4)
    ∷ answered (Do.Post 0 0 (filled_line 208)) Say.Ok
    ∷ answered_with (Do.Drain 0) ((Seal 0 (ctr 0 87) (line_of (range_with_len 135 9 ++ range_with_len 176 16 ++ range_with_len 160 16 ++ range_with_len 80 16 ++ range_with_len 64 7)) (short_tag 135)) ∷ []) (Say.Drained 4)
    ∷ answered (Do.Post 0 0 (filled_line 83)) Say.Ok
    ∷ answered_with (Do.Drain 0) ((Seal 0 (ctr 0 88) (line_of (11 ∷ 10 ∷ 9 ∷ 8 ∷ 15 ∷ 14 ∷ 13 ∷ 12 ∷ 51 ∷ 50 ∷ 49 ∷ 48 ∷ 55 ∷ 54 ∷ 53 ∷ 52 ∷ 59 ∷ 58 ∷ 57 ∷ 56 ∷ 63 ∷ 62 ∷ 61 ∷ 60 ∷ 35 ∷ 34 ∷ 33 ∷ 32 ∷ 39 ∷ 38 ∷ 37 ∷ 36 ∷ 43 ∷ 42 ∷ 41 ∷ 40 ∷ 47 ∷ 46 ∷ 45 ∷ 44 ∷ 211 ∷ 210 ∷ 209 ∷ 208 ∷ 215 ∷ 214 ∷ 213 ∷ 212 ∷ 219 ∷ 218 ∷ 217 ∷ 216 ∷ 223 ∷ 222 ∷ 221 ∷ 220 ∷ 195 ∷ 194 ∷ 193 ∷ 192 ∷ 199 ∷ 198 ∷ 197 ∷ 196 ∷ [])) (short_tag 72)) ∷ []) (Say.Drained 5)
    ∷ answered (Do.Post 0 0 (filled_line 7)) Say.Ok
    ∷ answered_with (Do.Drain 0) ((Seal 0 (ctr 0 89) (line_of (94 ∷ 93 ∷ 92 ∷ 91 ∷ 90 ∷ 89 ∷ 88 ∷ 103 ∷ 102 ∷ 101 ∷ 100 ∷ 99 ∷ 98 ∷ 97 ∷ 96 ∷ 111 ∷ 110 ∷ 109 ∷ 108 ∷ 107 ∷ 106 ∷ 105 ∷ 104 ∷ 119 ∷ 118 ∷ 117 ∷ 116 ∷ 115 ∷ 114 ∷ 113 ∷ 112 ∷ 127 ∷ 126 ∷ 125 ∷ 124 ∷ 123 ∷ 122 ∷ 121 ∷ 120 ∷ 135 ∷ 134 ∷ 133 ∷ 132 ∷ 131 ∷ 130 ∷ 129 ∷ 128 ∷ 143 ∷ 142 ∷ 141 ∷ 140 ∷ 139 ∷ 138 ∷ 137 ∷ 136 ∷ 151 ∷ 150 ∷ 149 ∷ 148 ∷ 147 ∷ 146 ∷ 145 ∷ 144 ∷ 159 ∷ [])) (short_tag 137)) ∷ []) (Say.Drained 4)
    ∷ answered (Do.Post 0 0 (filled_line 177)) Say.Ok
    ∷ answered_with (Do.Drain 0) ((Seal 0 (ctr 0 90) (line_of (235 ∷ 234 ∷ 237 ∷ 236 ∷ 239 ∷ 238 ∷ 209 ∷ 208 ∷ 211 ∷ 210 ∷ 213 ∷ 212 ∷ 215 ∷ 214 ∷ 217 ∷ 216 ∷ 219 ∷ 218 ∷ 221 ∷ 220 ∷ 223 ∷ 222 ∷ 193 ∷ 192 ∷ 195 ∷ 194 ∷ 197 ∷ 196 ∷ 199 ∷ 198 ∷ 201 ∷ 200 ∷ 203 ∷ 202 ∷ 205 ∷ 204 ∷ 207 ∷ 206 ∷ 49 ∷ 48 ∷ 51 ∷ 50 ∷ 53 ∷ 52 ∷ 55 ∷ 54 ∷ 57 ∷ 56 ∷ 59 ∷ 58 ∷ 61 ∷ 60 ∷ 63 ∷ 62 ∷ 33 ∷ 32 ∷ 35 ∷ 34 ∷ 37 ∷ 36 ∷ 39 ∷ 38 ∷ 41 ∷ 40 ∷ [])) (short_tag 74)) ∷ []) (Say.Drained 4)
    ∷ answered (Do.Post 0 0 (filled_line 251)) Say.Ok
    ∷ answered_with (Do.Drain 0) ((Seal 0 (ctr 0 91) (line_of (160 ∷ 167 ∷ 166 ∷ 165 ∷ 164 ∷ 155 ∷ 154 ∷ 153 ∷ 152 ∷ 159 ∷ 158 ∷ 157 ∷ 156 ∷ 147 ∷ 146 ∷ 145 ∷ 144 ∷ 151 ∷ 150 ∷ 149 ∷ 148 ∷ 139 ∷ 138 ∷ 137 ∷ 136 ∷ 143 ∷ 142 ∷ 141 ∷ 140 ∷ 131 ∷ 130 ∷ 129 ∷ 128 ∷ 135 ∷ 134 ∷ 133 ∷ 132 ∷ 123 ∷ 122 ∷ 121 ∷ 120 ∷ 127 ∷ 126 ∷ 125 ∷ 124 ∷ 115 ∷ 114 ∷ 113 ∷ 112 ∷ 119 ∷ 118 ∷ 117 ∷ 116 ∷ 107 ∷ 106 ∷ 105 ∷ 104 ∷ 111 ∷ 110 ∷ 109 ∷ 108 ∷ 99 ∷ 98 ∷ 97 ∷ [])) (short_tag 139)) ∷ []) (Say.Drained 4)
    ∷ answered (Do.Post 0 0 (filled_line 192)) Say.Ok
    ∷ answered_with (Do.Drain 0) ((Seal 0 (ctr 0 92) (line_of (range_with_len 156 36 ++ range_with_len 64 28)) (short_tag 76)) ∷ []) (Say.Drained 5)
    ∷ answered (Do.Post 0 0 (filled_line 126)) Say.Ok
    ∷ answered_with (Do.Drain 0) ((Seal 0 (ctr 0 93) (line_of (35 ∷ 32 ∷ 33 ∷ 30 ∷ 31 ∷ 28 ∷ 29 ∷ 26 ∷ 27 ∷ 24 ∷ 25 ∷ 22 ∷ 23 ∷ 20 ∷ 21 ∷ 18 ∷ 19 ∷ 16 ∷ 17 ∷ 14 ∷ 15 ∷ 12 ∷ 13 ∷ 10 ∷ 11 ∷ 8 ∷ 9 ∷ 6 ∷ 7 ∷ 4 ∷ 5 ∷ 2 ∷ 3 ∷ 0 ∷ 1 ∷ 254 ∷ 255 ∷ 252 ∷ 253 ∷ 250 ∷ 251 ∷ 248 ∷ 249 ∷ 246 ∷ 247 ∷ 244 ∷ 245 ∷ 242 ∷ 243 ∷ 240 ∷ 241 ∷ 238 ∷ 239 ∷ 236 ∷ 237 ∷ 234 ∷ 235 ∷ 232 ∷ 233 ∷ 230 ∷ 231 ∷ 228 ∷ 229 ∷ 226 ∷ [])) (short_tag 141)) ∷ []) (Say.Drained 4)
    ∷ answered (Do.Post 0 0 (filled_line 125)) Say.Ok
    ∷ answered_with (Do.Drain 0) ((Seal 0 (ctr 0 94) (line_of (35 ∷ 34 ∷ 29 ∷ 28 ∷ 31 ∷ 30 ∷ 25 ∷ 24 ∷ 27 ∷ 26 ∷ 21 ∷ 20 ∷ 23 ∷ 22 ∷ 17 ∷ 16 ∷ 19 ∷ 18 ∷ 13 ∷ 12 ∷ 15 ∷ 14 ∷ 9 ∷ 8 ∷ 11 ∷ 10 ∷ 5 ∷ 4 ∷ 7 ∷ 6 ∷ 1 ∷ 0 ∷ 3 ∷ 2 ∷ 253 ∷ 252 ∷ 255 ∷ 254 ∷ 249 ∷ 248 ∷ 251 ∷ 250 ∷ 245 ∷ 244 ∷ 247 ∷ 246 ∷ 241 ∷ 240 ∷ 243 ∷ 242 ∷ 237 ∷ 236 ∷ 239 ∷ 238 ∷ 233 ∷ 232 ∷ 235 ∷ 234 ∷ 229 ∷ 228 ∷ 231 ∷ 230 ∷ 225 ∷ 224 ∷ [])) (short_tag 78)) ∷ []) (Say.Drained 4)
    ∷ answered (Do.Post 0 0 (filled_line 83)) Say.Ok
    ∷ answered_with (Do.Drain 0) ((Seal 0 (ctr 0 95) (line_of (12 ∷ 51 ∷ 50 ∷ 49 ∷ 48 ∷ 55 ∷ 54 ∷ 53 ∷ 52 ∷ 59 ∷ 58 ∷ 57 ∷ 56 ∷ 63 ∷ 62 ∷ 61 ∷ 60 ∷ 35 ∷ 34 ∷ 33 ∷ 32 ∷ 39 ∷ 38 ∷ 37 ∷ 36 ∷ 43 ∷ 42 ∷ 41 ∷ 40 ∷ 47 ∷ 46 ∷ 45 ∷ 44 ∷ 211 ∷ 210 ∷ 209 ∷ 208 ∷ 215 ∷ 214 ∷ 213 ∷ 212 ∷ 219 ∷ 218 ∷ 217 ∷ 216 ∷ 223 ∷ 222 ∷ 221 ∷ 220 ∷ 195 ∷ 194 ∷ 193 ∷ 192 ∷ 199 ∷ 198 ∷ 197 ∷ 196 ∷ 203 ∷ 202 ∷ 201 ∷ 200 ∷ 207 ∷ 206 ∷ 205 ∷ [])) (short_tag 143)) ∷ []) (Say.Drained 4)
    ∷ answered (Do.Post 0 0 (filled_line 35)) Say.Ok
    ∷ answered_with (Do.Drain 0) ((Seal 0 (ctr 0 96) (line_of (67 ∷ 66 ∷ 65 ∷ 64 ∷ 71 ∷ 70 ∷ 69 ∷ 68 ∷ 75 ∷ 74 ∷ 73 ∷ 72 ∷ 79 ∷ 78 ∷ 77 ∷ 76 ∷ 83 ∷ 82 ∷ 81 ∷ 80 ∷ 87 ∷ 86 ∷ 85 ∷ 84 ∷ 91 ∷ 90 ∷ 89 ∷ 88 ∷ 95 ∷ 94 ∷ 93 ∷ 92 ∷ 163 ∷ 162 ∷ 161 ∷ 160 ∷ 167 ∷ 166 ∷ 165 ∷ 164 ∷ 171 ∷ 170 ∷ 169 ∷ 168 ∷ 175 ∷ 174 ∷ 173 ∷ 172 ∷ 179 ∷ 178 ∷ 177 ∷ 176 ∷ 183 ∷ 182 ∷ 181 ∷ 180 ∷ 187 ∷ 186 ∷ 185 ∷ 184 ∷ 191 ∷ 190 ∷ 189 ∷ 188 ∷ [])) (short_tag 112)) ∷ []) (Say.Drained 5)
    ∷ answered (Do.Post 0 0 (filled_line 224)) Say.Ok
    ∷ answered_with (Do.Drain 0) ((Seal 0 (ctr 0 97) (line_of (range_with_len 129 31 ++ range_with_len 96 32 ++ 64 ∷ [])) (short_tag 177)) ∷ []) (Say.Drained 4)
    ∷ answered (Do.Post 0 0 (filled_line 208)) Say.Ok
    ∷ answered_with (Do.Drain 0) ((Seal 0 (ctr 0 98) (line_of (range_with_len 178 14 ++ range_with_len 160 16 ++ range_with_len 80 16 ++ range_with_len 64 16 ++ 112 ∷ 113 ∷ [])) (short_tag 114)) ∷ []) (Say.Drained 4)
    ∷ answered (Do.Post 0 0 (filled_line 247)) Say.Ok
    ∷ answered_with (Do.Drain 0) ((Seal 0 (ctr 0 99) (line_of (148 ∷ 147 ∷ 146 ∷ 145 ∷ 144 ∷ 159 ∷ 158 ∷ 157 ∷ 156 ∷ 155 ∷ 154 ∷ 153 ∷ 152 ∷ 135 ∷ 134 ∷ 133 ∷ 132 ∷ 131 ∷ 130 ∷ 129 ∷ 128 ∷ 143 ∷ 142 ∷ 141 ∷ 140 ∷ 139 ∷ 138 ∷ 137 ∷ 136 ∷ 119 ∷ 118 ∷ 117 ∷ 116 ∷ 115 ∷ 114 ∷ 113 ∷ 112 ∷ 127 ∷ 126 ∷ 125 ∷ 124 ∷ 123 ∷ 122 ∷ 121 ∷ 120 ∷ 103 ∷ 102 ∷ 101 ∷ 100 ∷ 99 ∷ 98 ∷ 97 ∷ 96 ∷ 111 ∷ 110 ∷ 109 ∷ 108 ∷ 107 ∷ 106 ∷ 105 ∷ 104 ∷ 87 ∷ 86 ∷ 85 ∷ [])) (short_tag 179)) ∷ []) (Say.Drained 4)
    ∷ answered (Do.Post 0 0 (filled_line 29)) Say.Ok
    ∷ answered_with (Do.Drain 0) ((Seal 0 (ctr 0 100) (line_of (121 ∷ 120 ∷ 123 ∷ 122 ∷ 117 ∷ 116 ∷ 119 ∷ 118 ∷ 113 ∷ 112 ∷ 115 ∷ 114 ∷ 109 ∷ 108 ∷ 111 ∷ 110 ∷ 105 ∷ 104 ∷ 107 ∷ 106 ∷ 101 ∷ 100 ∷ 103 ∷ 102 ∷ 97 ∷ 96 ∷ 99 ∷ 98 ∷ 157 ∷ 156 ∷ 159 ∷ 158 ∷ 153 ∷ 152 ∷ 155 ∷ 154 ∷ 149 ∷ 148 ∷ 151 ∷ 150 ∷ 145 ∷ 144 ∷ 147 ∷ 146 ∷ 141 ∷ 140 ∷ 143 ∷ 142 ∷ 137 ∷ 136 ∷ 139 ∷ 138 ∷ 133 ∷ 132 ∷ 135 ∷ 134 ∷ 129 ∷ 128 ∷ 131 ∷ 130 ∷ 189 ∷ 188 ∷ 191 ∷ 190 ∷ [])) (short_tag 116)) ∷ []) (Say.Drained 5)
    ∷ answered (Do.Post 0 0 (filled_line 147)) Say.Ok
    ∷ answered_with (Do.Drain 0) ((Seal 0 (ctr 0 101) (line_of (246 ∷ 245 ∷ 244 ∷ 251 ∷ 250 ∷ 249 ∷ 248 ∷ 255 ∷ 254 ∷ 253 ∷ 252 ∷ 227 ∷ 226 ∷ 225 ∷ 224 ∷ 231 ∷ 230 ∷ 229 ∷ 228 ∷ 235 ∷ 234 ∷ 233 ∷ 232 ∷ 239 ∷ 238 ∷ 237 ∷ 236 ∷ 19 ∷ 18 ∷ 17 ∷ 16 ∷ 23 ∷ 22 ∷ 21 ∷ 20 ∷ 27 ∷ 26 ∷ 25 ∷ 24 ∷ 31 ∷ 30 ∷ 29 ∷ 28 ∷ 3 ∷ 2 ∷ 1 ∷ 0 ∷ 7 ∷ 6 ∷ 5 ∷ 4 ∷ 11 ∷ 10 ∷ 9 ∷ 8 ∷ 15 ∷ 14 ∷ 13 ∷ 12 ∷ 51 ∷ 50 ∷ 49 ∷ 48 ∷ 55 ∷ [])) (short_tag 181)) ∷ []) (Say.Drained 4)
    ∷ answered (Do.Post 0 0 (filled_line 26)) Say.Ok
    ∷ answered_with (Do.Drain 0) ((Seal 0 (ctr 0 102) (line_of (124 ∷ 125 ∷ 114 ∷ 115 ∷ 112 ∷ 113 ∷ 118 ∷ 119 ∷ 116 ∷ 117 ∷ 106 ∷ 107 ∷ 104 ∷ 105 ∷ 110 ∷ 111 ∷ 108 ∷ 109 ∷ 98 ∷ 99 ∷ 96 ∷ 97 ∷ 102 ∷ 103 ∷ 100 ∷ 101 ∷ 154 ∷ 155 ∷ 152 ∷ 153 ∷ 158 ∷ 159 ∷ 156 ∷ 157 ∷ 146 ∷ 147 ∷ 144 ∷ 145 ∷ 150 ∷ 151 ∷ 148 ∷ 149 ∷ 138 ∷ 139 ∷ 136 ∷ 137 ∷ 142 ∷ 143 ∷ 140 ∷ 141 ∷ 130 ∷ 131 ∷ 128 ∷ 129 ∷ 134 ∷ 135 ∷ 132 ∷ 133 ∷ 186 ∷ 187 ∷ 184 ∷ 185 ∷ 190 ∷ 191 ∷ [])) (short_tag 118)) ∷ []) (Say.Drained 4)
    ∷ answered (Do.Post 0 0 (filled_line 132)) Say.Ok
    ∷ answered_with (Do.Drain 0) ((Seal 0 (ctr 0 103) (line_of (227 ∷ range_with_len 236 4 ++ range_with_len 232 4 ++ range_with_len 244 4 ++ range_with_len 240 4 ++ range_with_len 252 4 ++ range_with_len 248 4 ++ range_with_len 4 4 ++ range_with_len 0 4 ++ range_with_len 12 4 ++ range_with_len 8 4 ++ range_with_len 20 4 ++ range_with_len 16 4 ++ range_with_len 28 4 ++ range_with_len 24 4 ++ range_with_len 36 4 ++ 32 ∷ 33 ∷ 34 ∷ [])) (short_tag 183)) ∷ []) (Say.Drained 4)
    ∷ answered (Do.Post 0 0 (filled_line 148)) Say.Ok
    ∷ answered_with (Do.Drain 0) ((Seal 0 (ctr 0 104) (line_of (range_with_len 252 4 ++ range_with_len 248 4 ++ range_with_len 228 4 ++ range_with_len 224 4 ++ range_with_len 236 4 ++ range_with_len 232 4 ++ range_with_len 20 4 ++ range_with_len 16 4 ++ range_with_len 28 4 ++ range_with_len 24 4 ++ range_with_len 4 4 ++ range_with_len 0 4 ++ range_with_len 12 4 ++ range_with_len 8 4 ++ range_with_len 52 4 ++ range_with_len 48 4)) (short_tag 120)) ∷ []) (Say.Drained 5)
    ∷ answered (Do.Post 0 0 (filled_line 17)) Say.Ok
    ∷ answered_with (Do.Drain 0) ((Seal 0 (ctr 0 105) (line_of (120 ∷ 123 ∷ 122 ∷ 125 ∷ 124 ∷ 127 ∷ 126 ∷ 97 ∷ 96 ∷ 99 ∷ 98 ∷ 101 ∷ 100 ∷ 103 ∷ 102 ∷ 105 ∷ 104 ∷ 107 ∷ 106 ∷ 109 ∷ 108 ∷ 111 ∷ 110 ∷ 145 ∷ 144 ∷ 147 ∷ 146 ∷ 149 ∷ 148 ∷ 151 ∷ 150 ∷ 153 ∷ 152 ∷ 155 ∷ 154 ∷ 157 ∷ 156 ∷ 159 ∷ 158 ∷ 129 ∷ 128 ∷ 131 ∷ 130 ∷ 133 ∷ 132 ∷ 135 ∷ 134 ∷ 137 ∷ 136 ∷ 139 ∷ 138 ∷ 141 ∷ 140 ∷ 143 ∷ 142 ∷ 177 ∷ 176 ∷ 179 ∷ 178 ∷ 181 ∷ 180 ∷ 183 ∷ 182 ∷ 185 ∷ [])) (short_tag 185)) ∷ []) (Say.Drained 4)
    ∷ answered (Do.Post 0 0 (filled_line 214)) Say.Ok
    ∷ answered_with (Do.Drain 0) ((Seal 0 (ctr 0 106) (line_of (188 ∷ 189 ∷ 186 ∷ 187 ∷ 184 ∷ 185 ∷ 166 ∷ 167 ∷ 164 ∷ 165 ∷ 162 ∷ 163 ∷ 160 ∷ 161 ∷ 174 ∷ 175 ∷ 172 ∷ 173 ∷ 170 ∷ 171 ∷ 168 ∷ 169 ∷ 86 ∷ 87 ∷ 84 ∷ 85 ∷ 82 ∷ 83 ∷ 80 ∷ 81 ∷ 94 ∷ 95 ∷ 92 ∷ 93 ∷ 90 ∷ 91 ∷ 88 ∷ 89 ∷ 70 ∷ 71 ∷ 68 ∷ 69 ∷ 66 ∷ 67 ∷ 64 ∷ 65 ∷ 78 ∷ 79 ∷ 76 ∷ 77 ∷ 74 ∷ 75 ∷ 72 ∷ 73 ∷ 118 ∷ 119 ∷ 116 ∷ 117 ∷ 114 ∷ 115 ∷ 112 ∷ 113 ∷ 126 ∷ 127 ∷ [])) (short_tag 122)) ∷ []) (Say.Drained 4)
    ∷ answered (Do.Post 0 0 (filled_line 127)) Say.Ok
    ∷ answered_with (Do.Drain 0) ((Seal 0 (ctr 0 107) (line_of (20 ∷ 19 ∷ 18 ∷ 17 ∷ 16 ∷ 15 ∷ 14 ∷ 13 ∷ 12 ∷ 11 ∷ 10 ∷ 9 ∷ 8 ∷ 7 ∷ 6 ∷ 5 ∷ 4 ∷ 3 ∷ 2 ∷ 1 ∷ 0 ∷ 255 ∷ 254 ∷ 253 ∷ 252 ∷ 251 ∷ 250 ∷ 249 ∷ 248 ∷ 247 ∷ 246 ∷ 245 ∷ 244 ∷ 243 ∷ 242 ∷ 241 ∷ 240 ∷ 239 ∷ 238 ∷ 237 ∷ 236 ∷ 235 ∷ 234 ∷ 233 ∷ 232 ∷ 231 ∷ 230 ∷ 229 ∷ 228 ∷ 227 ∷ 226 ∷ 225 ∷ 224 ∷ 223 ∷ 222 ∷ 221 ∷ 220 ∷ 219 ∷ 218 ∷ 217 ∷ 216 ∷ 215 ∷ 214 ∷ 213 ∷ [])) (short_tag 187)) ∷ []) (Say.Drained 4)
    ∷ answered (Do.Post 0 0 (filled_line 87)) Say.Ok
    ∷ answered_with (Do.Drain 0) ((Seal 0 (ctr 0 108) (line_of (59 ∷ 58 ∷ 57 ∷ 56 ∷ 39 ∷ 38 ∷ 37 ∷ 36 ∷ 35 ∷ 34 ∷ 33 ∷ 32 ∷ 47 ∷ 46 ∷ 45 ∷ 44 ∷ 43 ∷ 42 ∷ 41 ∷ 40 ∷ 215 ∷ 214 ∷ 213 ∷ 212 ∷ 211 ∷ 210 ∷ 209 ∷ 208 ∷ 223 ∷ 222 ∷ 221 ∷ 220 ∷ 219 ∷ 218 ∷ 217 ∷ 216 ∷ 199 ∷ 198 ∷ 197 ∷ 196 ∷ 195 ∷ 194 ∷ 193 ∷ 192 ∷ 207 ∷ 206 ∷ 205 ∷ 204 ∷ 203 ∷ 202 ∷ 201 ∷ 200 ∷ 247 ∷ 246 ∷ 245 ∷ 244 ∷ 243 ∷ 242 ∷ 241 ∷ 240 ∷ 255 ∷ 254 ∷ 253 ∷ 252 ∷ [])) (short_tag 124)) ∷ []) (Say.Drained 5)
    ∷ answered (Do.Post 0 0 (filled_line 201)) Say.Ok
    ∷ answered_with (Do.Drain 0) ((Seal 0 (ctr 0 109) (line_of (164 ∷ 167 ∷ 166 ∷ 185 ∷ 184 ∷ 187 ∷ 186 ∷ 189 ∷ 188 ∷ 191 ∷ 190 ∷ 177 ∷ 176 ∷ 179 ∷ 178 ∷ 181 ∷ 180 ∷ 183 ∷ 182 ∷ 73 ∷ 72 ∷ 75 ∷ 74 ∷ 77 ∷ 76 ∷ 79 ∷ 78 ∷ 65 ∷ 64 ∷ 67 ∷ 66 ∷ 69 ∷ 68 ∷ 71 ∷ 70 ∷ 89 ∷ 88 ∷ 91 ∷ 90 ∷ 93 ∷ 92 ∷ 95 ∷ 94 ∷ 81 ∷ 80 ∷ 83 ∷ 82 ∷ 85 ∷ 84 ∷ 87 ∷ 86 ∷ 105 ∷ 104 ∷ 107 ∷ 106 ∷ 109 ∷ 108 ∷ 111 ∷ 110 ∷ 97 ∷ 96 ∷ 99 ∷ 98 ∷ 101 ∷ [])) (short_tag 189)) ∷ []) (Say.Drained 4)
    ∷ answered (Do.Post 0 0 (filled_line 35)) Say.Ok
    ∷ answered_with (Do.Drain 0) ((Seal 0 (ctr 0 110) (line_of (77 ∷ 76 ∷ 83 ∷ 82 ∷ 81 ∷ 80 ∷ 87 ∷ 86 ∷ 85 ∷ 84 ∷ 91 ∷ 90 ∷ 89 ∷ 88 ∷ 95 ∷ 94 ∷ 93 ∷ 92 ∷ 163 ∷ 162 ∷ 161 ∷ 160 ∷ 167 ∷ 166 ∷ 165 ∷ 164 ∷ 171 ∷ 170 ∷ 169 ∷ 168 ∷ 175 ∷ 174 ∷ 173 ∷ 172 ∷ 179 ∷ 178 ∷ 177 ∷ 176 ∷ 183 ∷ 182 ∷ 181 ∷ 180 ∷ 187 ∷ 186 ∷ 185 ∷ 184 ∷ 191 ∷ 190 ∷ 189 ∷ 188 ∷ 131 ∷ 130 ∷ 129 ∷ 128 ∷ 135 ∷ 134 ∷ 133 ∷ 132 ∷ 139 ∷ 138 ∷ 137 ∷ 136 ∷ 143 ∷ 142 ∷ [])) (short_tag 126)) ∷ []) (Say.Drained 4)
    ∷ answered (Do.Post 0 0 (filled_line 173)) Say.Ok
    ∷ answered_with (Do.Drain 0) ((Seal 0 (ctr 0 111) (line_of (194 ∷ 221 ∷ 220 ∷ 223 ∷ 222 ∷ 217 ∷ 216 ∷ 219 ∷ 218 ∷ 213 ∷ 212 ∷ 215 ∷ 214 ∷ 209 ∷ 208 ∷ 211 ∷ 210 ∷ 45 ∷ 44 ∷ 47 ∷ 46 ∷ 41 ∷ 40 ∷ 43 ∷ 42 ∷ 37 ∷ 36 ∷ 39 ∷ 38 ∷ 33 ∷ 32 ∷ 35 ∷ 34 ∷ 61 ∷ 60 ∷ 63 ∷ 62 ∷ 57 ∷ 56 ∷ 59 ∷ 58 ∷ 53 ∷ 52 ∷ 55 ∷ 54 ∷ 49 ∷ 48 ∷ 51 ∷ 50 ∷ 13 ∷ 12 ∷ 15 ∷ 14 ∷ 9 ∷ 8 ∷ 11 ∷ 10 ∷ 5 ∷ 4 ∷ 7 ∷ 6 ∷ 1 ∷ 0 ∷ 3 ∷ [])) (short_tag 191)) ∷ []) (Say.Drained 4)
    ∷ answered (Do.Post 0 0 (filled_line 74)) Say.Ok
    ∷ answered_with (Do.Drain 0) ((Seal 0 (ctr 0 112) (line_of (58 ∷ 59 ∷ 56 ∷ 57 ∷ 62 ∷ 63 ∷ 60 ∷ 61 ∷ 50 ∷ 51 ∷ 48 ∷ 49 ∷ 54 ∷ 55 ∷ 52 ∷ 53 ∷ 202 ∷ 203 ∷ 200 ∷ 201 ∷ 206 ∷ 207 ∷ 204 ∷ 205 ∷ 194 ∷ 195 ∷ 192 ∷ 193 ∷ 198 ∷ 199 ∷ 196 ∷ 197 ∷ 218 ∷ 219 ∷ 216 ∷ 217 ∷ 222 ∷ 223 ∷ 220 ∷ 221 ∷ 210 ∷ 211 ∷ 208 ∷ 209 ∷ 214 ∷ 215 ∷ 212 ∷ 213 ∷ 234 ∷ 235 ∷ 232 ∷ 233 ∷ 238 ∷ 239 ∷ 236 ∷ 237 ∷ 226 ∷ 227 ∷ 224 ∷ 225 ∷ 230 ∷ 231 ∷ 228 ∷ 229 ∷ [])) (short_tag 96)) ∷ []) (Say.Drained 5)
    ∷ answered (Do.Post 0 0 (filled_line 77)) Say.Ok
    ∷ answered_with (Do.Drain 0) ((Seal 0 (ctr 0 113) (line_of (60 ∷ 63 ∷ 62 ∷ 57 ∷ 56 ∷ 59 ∷ 58 ∷ 53 ∷ 52 ∷ 55 ∷ 54 ∷ 49 ∷ 48 ∷ 51 ∷ 50 ∷ 205 ∷ 204 ∷ 207 ∷ 206 ∷ 201 ∷ 200 ∷ 203 ∷ 202 ∷ 197 ∷ 196 ∷ 199 ∷ 198 ∷ 193 ∷ 192 ∷ 195 ∷ 194 ∷ 221 ∷ 220 ∷ 223 ∷ 222 ∷ 217 ∷ 216 ∷ 219 ∷ 218 ∷ 213 ∷ 212 ∷ 215 ∷ 214 ∷ 209 ∷ 208 ∷ 211 ∷ 210 ∷ 237 ∷ 236 ∷ 239 ∷ 238 ∷ 233 ∷ 232 ∷ 235 ∷ 234 ∷ 229 ∷ 228 ∷ 231 ∷ 230 ∷ 225 ∷ 224 ∷ 227 ∷ 226 ∷ 253 ∷ [])) (short_tag 161)) ∷ []) (Say.Drained 4)
    ∷ answered (Do.Post 0 0 (filled_line 245)) Say.Ok
    ∷ answered_with (Do.Drain 0) ((Seal 0 (ctr 0 114) (line_of (135 ∷ 134 ∷ 129 ∷ 128 ∷ 131 ∷ 130 ∷ 141 ∷ 140 ∷ 143 ∷ 142 ∷ 137 ∷ 136 ∷ 139 ∷ 138 ∷ 117 ∷ 116 ∷ 119 ∷ 118 ∷ 113 ∷ 112 ∷ 115 ∷ 114 ∷ 125 ∷ 124 ∷ 127 ∷ 126 ∷ 121 ∷ 120 ∷ 123 ∷ 122 ∷ 101 ∷ 100 ∷ 103 ∷ 102 ∷ 97 ∷ 96 ∷ 99 ∷ 98 ∷ 109 ∷ 108 ∷ 111 ∷ 110 ∷ 105 ∷ 104 ∷ 107 ∷ 106 ∷ 85 ∷ 84 ∷ 87 ∷ 86 ∷ 81 ∷ 80 ∷ 83 ∷ 82 ∷ 93 ∷ 92 ∷ 95 ∷ 94 ∷ 89 ∷ 88 ∷ 91 ∷ 90 ∷ 69 ∷ 68 ∷ [])) (short_tag 98)) ∷ []) (Say.Drained 4)
    ∷ answered (Do.Post 0 0 (filled_line 25)) Say.Ok
    ∷ answered_with (Do.Drain 0) ((Seal 0 (ctr 0 115) (line_of (106 ∷ 109 ∷ 108 ∷ 111 ∷ 110 ∷ 97 ∷ 96 ∷ 99 ∷ 98 ∷ 101 ∷ 100 ∷ 103 ∷ 102 ∷ 153 ∷ 152 ∷ 155 ∷ 154 ∷ 157 ∷ 156 ∷ 159 ∷ 158 ∷ 145 ∷ 144 ∷ 147 ∷ 146 ∷ 149 ∷ 148 ∷ 151 ∷ 150 ∷ 137 ∷ 136 ∷ 139 ∷ 138 ∷ 141 ∷ 140 ∷ 143 ∷ 142 ∷ 129 ∷ 128 ∷ 131 ∷ 130 ∷ 133 ∷ 132 ∷ 135 ∷ 134 ∷ 185 ∷ 184 ∷ 187 ∷ 186 ∷ 189 ∷ 188 ∷ 191 ∷ 190 ∷ 177 ∷ 176 ∷ 179 ∷ 178 ∷ 181 ∷ 180 ∷ 183 ∷ 182 ∷ 169 ∷ 168 ∷ 171 ∷ [])) (short_tag 163)) ∷ []) (Say.Drained 4)
    ∷ answered (Do.Post 0 0 (filled_line 129)) Say.Ok
    ∷ answered_with (Do.Drain 0) ((Seal 0 (ctr 0 116) (line_of (245 ∷ 244 ∷ 247 ∷ 246 ∷ 249 ∷ 248 ∷ 251 ∷ 250 ∷ 253 ∷ 252 ∷ 255 ∷ 254 ∷ 1 ∷ 0 ∷ 3 ∷ 2 ∷ 5 ∷ 4 ∷ 7 ∷ 6 ∷ 9 ∷ 8 ∷ 11 ∷ 10 ∷ 13 ∷ 12 ∷ 15 ∷ 14 ∷ 17 ∷ 16 ∷ 19 ∷ 18 ∷ 21 ∷ 20 ∷ 23 ∷ 22 ∷ 25 ∷ 24 ∷ 27 ∷ 26 ∷ 29 ∷ 28 ∷ 31 ∷ 30 ∷ 33 ∷ 32 ∷ 35 ∷ 34 ∷ 37 ∷ 36 ∷ 39 ∷ 38 ∷ 41 ∷ 40 ∷ 43 ∷ 42 ∷ 45 ∷ 44 ∷ 47 ∷ 46 ∷ 49 ∷ 48 ∷ 51 ∷ 50 ∷ [])) (short_tag 100)) ∷ []) (Say.Drained 5)
    ∷ answered (Do.Post 0 0 (filled_line 71)) Say.Ok
    ∷ answered_with (Do.Drain 0) ((Seal 0 (ctr 0 117) (line_of (50 ∷ 49 ∷ 48 ∷ 63 ∷ 62 ∷ 61 ∷ 60 ∷ 59 ∷ 58 ∷ 57 ∷ 56 ∷ 199 ∷ 198 ∷ 197 ∷ 196 ∷ 195 ∷ 194 ∷ 193 ∷ 192 ∷ 207 ∷ 206 ∷ 205 ∷ 204 ∷ 203 ∷ 202 ∷ 201 ∷ 200 ∷ 215 ∷ 214 ∷ 213 ∷ 212 ∷ 211 ∷ 210 ∷ 209 ∷ 208 ∷ 223 ∷ 222 ∷ 221 ∷ 220 ∷ 219 ∷ 218 ∷ 217 ∷ 216 ∷ 231 ∷ 230 ∷ 229 ∷ 228 ∷ 227 ∷ 226 ∷ 225 ∷ 224 ∷ 239 ∷ 238 ∷ 237 ∷ 236 ∷ 235 ∷ 234 ∷ 233 ∷ 232 ∷ 247 ∷ 246 ∷ 245 ∷ 244 ∷ 243 ∷ [])) (short_tag 165)) ∷ []) (Say.Drained 4)
    ∷ answered (Do.Post 0 0 (filled_line 245)) Say.Ok
    ∷ answered_with (Do.Drain 0) ((Seal 0 (ctr 0 118) (line_of (131 ∷ 130 ∷ 141 ∷ 140 ∷ 143 ∷ 142 ∷ 137 ∷ 136 ∷ 139 ∷ 138 ∷ 117 ∷ 116 ∷ 119 ∷ 118 ∷ 113 ∷ 112 ∷ 115 ∷ 114 ∷ 125 ∷ 124 ∷ 127 ∷ 126 ∷ 121 ∷ 120 ∷ 123 ∷ 122 ∷ 101 ∷ 100 ∷ 103 ∷ 102 ∷ 97 ∷ 96 ∷ 99 ∷ 98 ∷ 109 ∷ 108 ∷ 111 ∷ 110 ∷ 105 ∷ 104 ∷ 107 ∷ 106 ∷ 85 ∷ 84 ∷ 87 ∷ 86 ∷ 81 ∷ 80 ∷ 83 ∷ 82 ∷ 93 ∷ 92 ∷ 95 ∷ 94 ∷ 89 ∷ 88 ∷ 91 ∷ 90 ∷ 69 ∷ 68 ∷ 71 ∷ 70 ∷ 65 ∷ 64 ∷ [])) (short_tag 102)) ∷ []) (Say.Drained 4)
    ∷ answered (Do.Post 0 0 (filled_line 14)) Say.Ok
    ∷ answered_with (Do.Drain 0) ((Seal 0 (ctr 0 119) (line_of (121 ∷ 118 ∷ 119 ∷ 116 ∷ 117 ∷ 114 ∷ 115 ∷ 112 ∷ 113 ∷ 142 ∷ 143 ∷ 140 ∷ 141 ∷ 138 ∷ 139 ∷ 136 ∷ 137 ∷ 134 ∷ 135 ∷ 132 ∷ 133 ∷ 130 ∷ 131 ∷ 128 ∷ 129 ∷ 158 ∷ 159 ∷ 156 ∷ 157 ∷ 154 ∷ 155 ∷ 152 ∷ 153 ∷ 150 ∷ 151 ∷ 148 ∷ 149 ∷ 146 ∷ 147 ∷ 144 ∷ 145 ∷ 174 ∷ 175 ∷ 172 ∷ 173 ∷ 170 ∷ 171 ∷ 168 ∷ 169 ∷ 166 ∷ 167 ∷ 164 ∷ 165 ∷ 162 ∷ 163 ∷ 160 ∷ 161 ∷ 190 ∷ 191 ∷ 188 ∷ 189 ∷ 186 ∷ 187 ∷ 184 ∷ [])) (short_tag 167)) ∷ []) (Say.Drained 4)
    ∷ answered (Do.Post 0 0 (filled_line 108)) Say.Ok
    ∷ answered_with (Do.Drain 0) ((Seal 0 (ctr 0 120) (line_of (range_with_len 20 4 ++ range_with_len 16 4 ++ range_with_len 236 4 ++ range_with_len 232 4 ++ range_with_len 228 4 ++ range_with_len 224 4 ++ range_with_len 252 4 ++ range_with_len 248 4 ++ range_with_len 244 4 ++ range_with_len 240 4 ++ range_with_len 204 4 ++ range_with_len 200 4 ++ range_with_len 196 4 ++ range_with_len 192 4 ++ range_with_len 220 4 ++ range_with_len 216 4)) (short_tag 104)) ∷ []) (Say.Drained 5)
    ∷ answered (Do.Post 0 0 (filled_line 187)) Say.Ok
    ∷ answered_with (Do.Drain 0) ((Seal 0 (ctr 0 121) (line_of (194 ∷ 193 ∷ 192 ∷ 199 ∷ 198 ∷ 197 ∷ 196 ∷ 59 ∷ 58 ∷ 57 ∷ 56 ∷ 63 ∷ 62 ∷ 61 ∷ 60 ∷ 51 ∷ 50 ∷ 49 ∷ 48 ∷ 55 ∷ 54 ∷ 53 ∷ 52 ∷ 43 ∷ 42 ∷ 41 ∷ 40 ∷ 47 ∷ 46 ∷ 45 ∷ 44 ∷ 35 ∷ 34 ∷ 33 ∷ 32 ∷ 39 ∷ 38 ∷ 37 ∷ 36 ∷ 27 ∷ 26 ∷ 25 ∷ 24 ∷ 31 ∷ 30 ∷ 29 ∷ 28 ∷ 19 ∷ 18 ∷ 17 ∷ 16 ∷ 23 ∷ 22 ∷ 21 ∷ 20 ∷ 11 ∷ 10 ∷ 9 ∷ 8 ∷ 15 ∷ 14 ∷ 13 ∷ 12 ∷ 3 ∷ [])) (short_tag 169)) ∷ []) (Say.Drained 4)
    ∷ answered (Do.Post 0 0 (filled_line 78)) Say.Ok
    ∷ answered_with (Do.Drain 0) ((Seal 0 (ctr 0 122) (line_of (52 ∷ 53 ∷ 50 ∷ 51 ∷ 48 ∷ 49 ∷ 206 ∷ 207 ∷ 204 ∷ 205 ∷ 202 ∷ 203 ∷ 200 ∷ 201 ∷ 198 ∷ 199 ∷ 196 ∷ 197 ∷ 194 ∷ 195 ∷ 192 ∷ 193 ∷ 222 ∷ 223 ∷ 220 ∷ 221 ∷ 218 ∷ 219 ∷ 216 ∷ 217 ∷ 214 ∷ 215 ∷ 212 ∷ 213 ∷ 210 ∷ 211 ∷ 208 ∷ 209 ∷ 238 ∷ 239 ∷ 236 ∷ 237 ∷ 234 ∷ 235 ∷ 232 ∷ 233 ∷ 230 ∷ 231 ∷ 228 ∷ 229 ∷ 226 ∷ 227 ∷ 224 ∷ 225 ∷ 254 ∷ 255 ∷ 252 ∷ 253 ∷ 250 ∷ 251 ∷ 248 ∷ 249 ∷ 246 ∷ 247 ∷ [])) (short_tag 106)) ∷ []) (Say.Drained 4)
    ∷ answered (Do.Post 0 0 (filled_line 188)) Say.Ok
    ∷ answered_with (Do.Drain 0) ((Seal 0 (ctr 0 123) (line_of (199 ∷ range_with_len 192 4 ++ range_with_len 60 4 ++ range_with_len 56 4 ++ range_with_len 52 4 ++ range_with_len 48 4 ++ range_with_len 44 4 ++ range_with_len 40 4 ++ range_with_len 36 4 ++ range_with_len 32 4 ++ range_with_len 28 4 ++ range_with_len 24 4 ++ range_with_len 20 4 ++ range_with_len 16 4 ++ range_with_len 12 4 ++ range_with_len 8 4 ++ 4 ∷ 5 ∷ 6 ∷ [])) (short_tag 171)) ∷ []) (Say.Drained 4)
    ∷ answered (Do.Post 0 0 (filled_line 218)) Say.Ok
    ∷ answered_with (Do.Drain 0) ((Seal 0 (ctr 0 124) (line_of (166 ∷ 167 ∷ 164 ∷ 165 ∷ 90 ∷ 91 ∷ 88 ∷ 89 ∷ 94 ∷ 95 ∷ 92 ∷ 93 ∷ 82 ∷ 83 ∷ 80 ∷ 81 ∷ 86 ∷ 87 ∷ 84 ∷ 85 ∷ 74 ∷ 75 ∷ 72 ∷ 73 ∷ 78 ∷ 79 ∷ 76 ∷ 77 ∷ 66 ∷ 67 ∷ 64 ∷ 65 ∷ 70 ∷ 71 ∷ 68 ∷ 69 ∷ 122 ∷ 123 ∷ 120 ∷ 121 ∷ 126 ∷ 127 ∷ 124 ∷ 125 ∷ 114 ∷ 115 ∷ 112 ∷ 113 ∷ 118 ∷ 119 ∷ 116 ∷ 117 ∷ 106 ∷ 107 ∷ 104 ∷ 105 ∷ 110 ∷ 111 ∷ 108 ∷ 109 ∷ 98 ∷ 99 ∷ 96 ∷ 97 ∷ [])) (short_tag 108)) ∷ []) (Say.Drained 5)
    ∷ answered (Do.Post 0 0 (filled_line 248)) Say.Ok
    ∷ answered_with (Do.Drain 0) ((Seal 0 (ctr 0 125) (line_of (133 ∷ 134 ∷ 135 ∷ range_with_len 120 8 ++ range_with_len 112 8 ++ range_with_len 104 8 ++ range_with_len 96 8 ++ range_with_len 88 8 ++ range_with_len 80 8 ++ range_with_len 72 8 ++ range_with_len 64 5)) (short_tag 173)) ∷ []) (Say.Drained 4)
    ∷ []

-- Without tampering, 320 commands
abbrev pub calm_pages_setup : Setup
calm_pages_setup =
    record {
      shape = record { levels = 1; sets = 1; ways = 1; loss = 4; major = 0; persist = 0; shadow = true; durable = false; combines = false };
      formulas = weak;
    }

abbrev pub calm_pages : Trace
calm_pages =
    answered (Do.Post 0 0 (filled_line 244)) Say.Ok
    ∷ answered_with (Do.Drain 0) ((Seal 0 (ctr 0 126) (line_of (138 ∷ 139 ∷ range_with_len 116 4 ++ range_with_len 112 4 ++ range_with_len 124 4 ++ range_with_len 120 4 ++ range_with_len 100 4 ++ range_with_len 96 4 ++ range_with_len 108 4 ++ range_with_len 104 4 ++ range_with_len 84 4 ++ range_with_len 80 4 ++ range_with_len 92 4 ++ range_with_len 88 4 ++ range_with_len 68 4 ++ range_with_len 64 4 ++ range_with_len 76 4 ++ 72 ∷ 73 ∷ [])) (short_tag 110)) ∷ []) (Say.Drained 4)
    ∷ answered (Do.Post 0 0 (filled_line 157)) Say.Ok
    ∷ answered_with (Do.Drain 0) ((Seal 0 (ctr 0 127) (line_of (226 ∷ 29 ∷ 28 ∷ 31 ∷ 30 ∷ 25 ∷ 24 ∷ 27 ∷ 26 ∷ 21 ∷ 20 ∷ 23 ∷ 22 ∷ 17 ∷ 16 ∷ 19 ∷ 18 ∷ 13 ∷ 12 ∷ 15 ∷ 14 ∷ 9 ∷ 8 ∷ 11 ∷ 10 ∷ 5 ∷ 4 ∷ 7 ∷ 6 ∷ 1 ∷ 0 ∷ 3 ∷ 2 ∷ 61 ∷ 60 ∷ 63 ∷ 62 ∷ 57 ∷ 56 ∷ 59 ∷ 58 ∷ 53 ∷ 52 ∷ 55 ∷ 54 ∷ 49 ∷ 48 ∷ 51 ∷ 50 ∷ 45 ∷ 44 ∷ 47 ∷ 46 ∷ 41 ∷ 40 ∷ 43 ∷ 42 ∷ 37 ∷ 36 ∷ 39 ∷ 38 ∷ 33 ∷ 32 ∷ 35 ∷ [])) (short_tag 175)) ∷ []) (Say.Drained 4)
    ∷ answered (Do.Post 0 0 (filled_line 71)) Say.Ok
    ∷ answered_with (Do.Drain 0) ((Begin 0) ∷ (Seal 0 (ctr 1 1) (line_of (69 ∷ 68 ∷ 67 ∷ 66 ∷ 65 ∷ 64 ∷ 79 ∷ 78 ∷ 77 ∷ 76 ∷ 75 ∷ 74 ∷ 73 ∷ 72 ∷ 87 ∷ 86 ∷ 85 ∷ 84 ∷ 83 ∷ 82 ∷ 81 ∷ 80 ∷ 95 ∷ 94 ∷ 93 ∷ 92 ∷ 91 ∷ 90 ∷ 89 ∷ 88 ∷ 103 ∷ 102 ∷ 101 ∷ 100 ∷ 99 ∷ 98 ∷ 97 ∷ 96 ∷ 111 ∷ 110 ∷ 109 ∷ 108 ∷ 107 ∷ 106 ∷ 105 ∷ 104 ∷ 119 ∷ 118 ∷ 117 ∷ 116 ∷ 115 ∷ 114 ∷ 113 ∷ 112 ∷ 127 ∷ 126 ∷ 125 ∷ 124 ∷ 123 ∷ 122 ∷ 121 ∷ 120 ∷ 7 ∷ 6 ∷ [])) (short_tag 16)) ∷ []) (Say.Drained 7)
    ∷ answered (Do.Post 0 0 (filled_line 141)) Say.Ok
    ∷ answered_with (Do.Drain 0) ((Seal 0 (ctr 1 2) (line_of (142 ∷ 137 ∷ 136 ∷ 139 ∷ 138 ∷ 133 ∷ 132 ∷ 135 ∷ 134 ∷ 129 ∷ 128 ∷ 131 ∷ 130 ∷ 157 ∷ 156 ∷ 159 ∷ 158 ∷ 153 ∷ 152 ∷ 155 ∷ 154 ∷ 149 ∷ 148 ∷ 151 ∷ 150 ∷ 145 ∷ 144 ∷ 147 ∷ 146 ∷ 173 ∷ 172 ∷ 175 ∷ 174 ∷ 169 ∷ 168 ∷ 171 ∷ 170 ∷ 165 ∷ 164 ∷ 167 ∷ 166 ∷ 161 ∷ 160 ∷ 163 ∷ 162 ∷ 189 ∷ 188 ∷ 191 ∷ 190 ∷ 185 ∷ 184 ∷ 187 ∷ 186 ∷ 181 ∷ 180 ∷ 183 ∷ 182 ∷ 177 ∷ 176 ∷ 179 ∷ 178 ∷ 205 ∷ 204 ∷ 207 ∷ [])) (short_tag 83)) ∷ []) (Say.Drained 4)
    ∷ answered (Do.Post 0 0 (filled_line 71)) Say.Ok
    ∷ answered_with (Do.Drain 0) ((Seal 0 (ctr 1 3) (line_of (67 ∷ 66 ∷ 65 ∷ 64 ∷ 79 ∷ 78 ∷ 77 ∷ 76 ∷ 75 ∷ 74 ∷ 73 ∷ 72 ∷ 87 ∷ 86 ∷ 85 ∷ 84 ∷ 83 ∷ 82 ∷ 81 ∷ 80 ∷ 95 ∷ 94 ∷ 93 ∷ 92 ∷ 91 ∷ 90 ∷ 89 ∷ 88 ∷ 103 ∷ 102 ∷ 101 ∷ 100 ∷ 99 ∷ 98 ∷ 97 ∷ 96 ∷ 111 ∷ 110 ∷ 109 ∷ 108 ∷ 107 ∷ 106 ∷ 105 ∷ 104 ∷ 119 ∷ 118 ∷ 117 ∷ 116 ∷ 115 ∷ 114 ∷ 113 ∷ 112 ∷ 127 ∷ 126 ∷ 125 ∷ 124 ∷ 123 ∷ 122 ∷ 121 ∷ 120 ∷ 7 ∷ 6 ∷ 5 ∷ 4 ∷ [])) (short_tag 18)) ∷ []) (Say.Drained 4)
    ∷ answered Do.On Say.Already
    ∷ answered (Do.Post 1 64 (filled_line 77)) Say.Ok
    ∷ answered (Do.Post 1 0 (filled_line 129)) Say.Ok
    ∷ answered (Do.Post 0 64 (filled_line 56)) Say.Ok
    ∷ answered (Do.Read 1 0) (Say.Got (filled_line 129) 0)
    ∷ answered (Do.Read 0 64) (Say.Got (filled_line 56) 0)
    ∷ answered (Do.Peek 153) (Say.Raw (line_of (range_with_len 153 64)))
    ∷ answered (Do.Read 0 0) (Say.Got (filled_line 71) 0)
    ∷ answered (Do.Post 0 0 (filled_line 41)) Say.Ok
    ∷ answered (Do.Part 0 1 9 9 (line_of (replicate 9 194 ++ replicate 55 0))) Say.Ok
    ∷ answered (Do.Loss 3) Say.Range
    ∷ answered Do.On Say.Already
    ∷ answered (Do.Post 1 0 (filled_line 237)) Say.Ok
    ∷ answered Do.Flush (Say.Flushed 0 1)
    ∷ answered (Do.Post 0 0 (filled_line 210)) Say.Ok
    ∷ answered_with (Do.Drain 0) ((Seal 64 (ctr 0 1) (line_of (range_with_len 121 7 ++ range_with_len 112 8 ++ range_with_len 104 8 ++ range_with_len 96 8 ++ range_with_len 88 8 ++ range_with_len 80 8 ++ range_with_len 72 8 ++ range_with_len 64 8 ++ 184 ∷ [])) (short_tag 145)) ∷ []) (Say.Drained 6)
    ∷ answered (Do.Post 0 1 (filled_line 121)) Say.Ok
    ∷ answered_with (Do.Drain 0) ((Seal 0 (ctr 1 4) (line_of (44 ∷ 47 ∷ 46 ∷ 33 ∷ 32 ∷ 35 ∷ 34 ∷ 37 ∷ 36 ∷ 39 ∷ 38 ∷ 57 ∷ 56 ∷ 59 ∷ 58 ∷ 61 ∷ 60 ∷ 63 ∷ 62 ∷ 49 ∷ 48 ∷ 51 ∷ 50 ∷ 53 ∷ 52 ∷ 55 ∷ 54 ∷ 9 ∷ 8 ∷ 11 ∷ 10 ∷ 13 ∷ 12 ∷ 15 ∷ 14 ∷ 1 ∷ 0 ∷ 3 ∷ 2 ∷ 5 ∷ 4 ∷ 7 ∷ 6 ∷ 25 ∷ 24 ∷ 27 ∷ 26 ∷ 29 ∷ 28 ∷ 31 ∷ 30 ∷ 17 ∷ 16 ∷ 19 ∷ 18 ∷ 21 ∷ 20 ∷ 23 ∷ 22 ∷ 105 ∷ 104 ∷ 107 ∷ 106 ∷ 109 ∷ [])) (short_tag 85)) ∷ []) (Say.Drained 7)
    ∷ answered (Do.Part 0 1 57 2 (line_of (242 ∷ 242 ∷ replicate 62 0))) Say.Ok
    ∷ answered (Do.Read 0 1) (Say.Got (line_of (replicate 57 121 ++ 242 ∷ 242 ∷ replicate 5 121)) 0)
    ∷ answered (Do.Post 0 64 (filled_line 42)) Say.Ok
    ∷ answered Do.Stat (Say.Counts (record { reads = 138; writes = 304; latches = 266; tags = 133; digests = 270 }))
    ∷ answered_with (Do.Drain 0) ((Seal 1 (ctr 1 1) (line_of (range_with_len 3 9 ++ 206 ∷ 207 ∷ 204 ∷ 205 ∷ 210 ∷ 211 ∷ 208 ∷ 209 ∷ 214 ∷ range_with_len 21 46)) (short_tag 147)) ∷ []) (Say.Drained 4)
    ∷ answered Do.On Say.Already
    ∷ answered (Do.Peek 125) (Say.Raw (line_of (range_with_len 125 64)))
    ∷ answered (Do.Post 0 64 (filled_line 204)) Say.Ok
    ∷ answered_with (Do.Drain 0) ((Seal 0 (ctr 1 5) (line_of (212 ∷ 213 ∷ 218 ∷ 219 ∷ 216 ∷ 217 ∷ 222 ∷ 223 ∷ 220 ∷ 221 ∷ 194 ∷ 195 ∷ 192 ∷ 193 ∷ 198 ∷ 199 ∷ 196 ∷ 197 ∷ 202 ∷ 203 ∷ 200 ∷ 201 ∷ 206 ∷ 207 ∷ 204 ∷ 205 ∷ 242 ∷ 243 ∷ 240 ∷ 241 ∷ 246 ∷ 247 ∷ 244 ∷ 245 ∷ 250 ∷ 251 ∷ 248 ∷ 249 ∷ 254 ∷ 255 ∷ 252 ∷ 253 ∷ 226 ∷ 227 ∷ 224 ∷ 225 ∷ 230 ∷ 231 ∷ 228 ∷ 229 ∷ 234 ∷ 235 ∷ 232 ∷ 233 ∷ 238 ∷ 239 ∷ 236 ∷ 237 ∷ 146 ∷ 147 ∷ 144 ∷ 145 ∷ 150 ∷ 151 ∷ [])) (short_tag 20)) ∷ []) (Say.Drained 4)
    ∷ answered_with Do.Turn ((Seal 2 (ctr 1 0) (line_of (range_with_len 3 64)) (short_tag 83)) ∷ []) (Say.Turned 61 4)
    ∷ answered (Do.Post 0 64 (filled_line 54)) Say.Ok
    ∷ answered_with (Do.Drain 0) ((Seal 1 (ctr 1 2) (line_of (125 ∷ 124 ∷ 127 ∷ 126 ∷ 113 ∷ 112 ∷ 115 ∷ 114 ∷ 117 ∷ 116 ∷ 119 ∷ 118 ∷ 105 ∷ 104 ∷ 107 ∷ 106 ∷ 109 ∷ 108 ∷ 111 ∷ 110 ∷ 97 ∷ 96 ∷ 99 ∷ 98 ∷ 101 ∷ 100 ∷ 103 ∷ 102 ∷ 89 ∷ 88 ∷ 91 ∷ 90 ∷ 93 ∷ 92 ∷ 95 ∷ 94 ∷ 81 ∷ 80 ∷ 83 ∷ 82 ∷ 85 ∷ 84 ∷ 87 ∷ 86 ∷ 73 ∷ 72 ∷ 75 ∷ 74 ∷ 77 ∷ 76 ∷ 79 ∷ 78 ∷ 65 ∷ 64 ∷ 67 ∷ 66 ∷ 69 ∷ 68 ∷ 71 ∷ 70 ∷ 57 ∷ 56 ∷ 59 ∷ 58 ∷ [])) (short_tag 18)) ∷ []) (Say.Drained 4)
    ∷ answered (Do.Loss 16) (Say.LossSet 1)
    ∷ answered (Do.Post 0 0 (filled_line 208)) Say.Ok
    ∷ answered Do.Off Say.Ok
    ∷ answered Do.On (Say.Recovered 44 5 4)
    ∷ answered (Do.Fence 1) (Say.Fenced 0 0)
    ∷ answered (Do.Cut 6) Say.Ok
    ∷ answered (Do.Post 0 1 (filled_line 195)) Say.Ok
    ∷ answered (Do.Post 0 64 (filled_line 188)) Say.Ok
    ∷ answered (Do.Peek 23) (Say.Raw (line_of (range_with_len 23 64)))
    ∷ answered Do.On Say.Already
    ∷ answered_with (Do.Drain 0) ((Seal 1 (ctr 1 3) (line_of (198 ∷ 197 ∷ 196 ∷ 203 ∷ 202 ∷ 201 ∷ 200 ∷ 207 ∷ 206 ∷ 205 ∷ 204 ∷ 211 ∷ 210 ∷ 209 ∷ 208 ∷ 215 ∷ 214 ∷ 213 ∷ 212 ∷ 219 ∷ 218 ∷ 217 ∷ 216 ∷ 223 ∷ 222 ∷ 221 ∷ 220 ∷ 227 ∷ 226 ∷ 225 ∷ 224 ∷ 231 ∷ 230 ∷ 229 ∷ 228 ∷ 235 ∷ 234 ∷ 233 ∷ 232 ∷ 239 ∷ 238 ∷ 237 ∷ 236 ∷ 243 ∷ 242 ∷ 241 ∷ 240 ∷ 247 ∷ 246 ∷ 245 ∷ 244 ∷ 251 ∷ 250 ∷ 249 ∷ 248 ∷ 255 ∷ 254 ∷ 253 ∷ 252 ∷ 131 ∷ 130 ∷ 129 ∷ 128 ∷ 135 ∷ [])) (short_tag 83)) ∷ []) (Say.Drained 6)
    ∷ answered (Do.Part 1 1 30 28 (line_of (replicate 28 162 ++ replicate 36 0))) Say.Ok
    ∷ answered (Do.Drain 0) (Say.CutLost None 0)
    ∷ answered Do.On (Say.Recovered 41 5 4)
    ∷ answered (Do.Read 0 0) (Say.Got (filled_line 210) 0)
    ∷ answered (Do.Drain 0) Say.Empty
    ∷ answered Do.Flush Say.Clean
    ∷ answered (Do.Post 0 64 (filled_line 2)) Say.Ok
    ∷ answered (Do.Post 0 64 (filled_line 155)) Say.Ok
    ∷ answered_with (Do.Drain 0) ((Seal 64 (ctr 0 2) (line_of (64 ∷ 65 ∷ 70 ∷ 71 ∷ 68 ∷ 69 ∷ 74 ∷ 75 ∷ 72 ∷ 73 ∷ 78 ∷ 79 ∷ 76 ∷ 77 ∷ 82 ∷ 83 ∷ 80 ∷ 81 ∷ 86 ∷ 87 ∷ 84 ∷ 85 ∷ 90 ∷ 91 ∷ 88 ∷ 89 ∷ 94 ∷ 95 ∷ 92 ∷ 93 ∷ 98 ∷ 99 ∷ 96 ∷ 97 ∷ 102 ∷ 103 ∷ 100 ∷ 101 ∷ 106 ∷ 107 ∷ 104 ∷ 105 ∷ 110 ∷ 111 ∷ 108 ∷ 109 ∷ 114 ∷ 115 ∷ 112 ∷ 113 ∷ 118 ∷ 119 ∷ 116 ∷ 117 ∷ 122 ∷ 123 ∷ 120 ∷ 121 ∷ 126 ∷ 127 ∷ 124 ∷ 125 ∷ 130 ∷ 131 ∷ [])) (short_tag 82)) ∷ []) (Say.Drained 6)
    ∷ answered (Do.Part 1 1 57 3 (line_of (174 ∷ 174 ∷ 174 ∷ replicate 61 0))) Say.Ok
    ∷ answered_with (Do.Drain 0) ((Seal 64 (ctr 0 3) (line_of (216 ∷ 223 ∷ 222 ∷ 221 ∷ 220 ∷ 211 ∷ 210 ∷ 209 ∷ 208 ∷ 215 ∷ 214 ∷ 213 ∷ 212 ∷ 203 ∷ 202 ∷ 201 ∷ 200 ∷ 207 ∷ 206 ∷ 205 ∷ 204 ∷ 195 ∷ 194 ∷ 193 ∷ 192 ∷ 199 ∷ 198 ∷ 197 ∷ 196 ∷ 251 ∷ 250 ∷ 249 ∷ 248 ∷ 255 ∷ 254 ∷ 253 ∷ 252 ∷ 243 ∷ 242 ∷ 241 ∷ 240 ∷ 247 ∷ 246 ∷ 245 ∷ 244 ∷ 235 ∷ 234 ∷ 233 ∷ 232 ∷ 239 ∷ 238 ∷ 237 ∷ 236 ∷ 227 ∷ 226 ∷ 225 ∷ 224 ∷ 231 ∷ 230 ∷ 229 ∷ 228 ∷ 27 ∷ 26 ∷ 25 ∷ [])) (short_tag 147)) ∷ []) (Say.Drained 4)
    ∷ answered (Do.Post 0 1 (filled_line 9)) Say.Ok
    ∷ answered Do.Flush (Say.Flushed 0 1)
    ∷ answered (Do.Part 1 64 61 1 (line_of (100 ∷ replicate 63 0))) Say.Ok
    ∷ answered_with (Do.Fence 0) ((Seal 1 (ctr 1 4) (line_of (15 ∷ 14 ∷ 1 ∷ 0 ∷ 3 ∷ 2 ∷ 5 ∷ 4 ∷ 7 ∷ 6 ∷ 25 ∷ 24 ∷ 27 ∷ 26 ∷ 29 ∷ 28 ∷ 31 ∷ 30 ∷ 17 ∷ 16 ∷ 19 ∷ 18 ∷ 21 ∷ 20 ∷ 23 ∷ 22 ∷ 41 ∷ 40 ∷ 43 ∷ 42 ∷ 45 ∷ 44 ∷ 47 ∷ 46 ∷ 33 ∷ 32 ∷ 35 ∷ 34 ∷ 37 ∷ 36 ∷ 39 ∷ 38 ∷ 57 ∷ 56 ∷ 59 ∷ 58 ∷ 61 ∷ 60 ∷ 63 ∷ 62 ∷ 49 ∷ 48 ∷ 51 ∷ 50 ∷ 53 ∷ 52 ∷ 55 ∷ 54 ∷ 73 ∷ 72 ∷ 75 ∷ 74 ∷ 77 ∷ 76 ∷ [])) (short_tag 20)) ∷ []) (Say.Fenced 1 6)
    ∷ answered (Do.Drain 0) Say.Empty
    ∷ answered (Do.Read 0 1) (Say.Got (filled_line 9) 0)
    ∷ answered (Do.Drain 0) Say.Empty
    ∷ answered Do.Flush (Say.Flushed 0 1)
    ∷ []

-- With tampering, 80 commands
abbrev pub tampered_one_setup : Setup
tampered_one_setup =
    record {
      shape = record { levels = 1; sets = 1; ways = 1; loss = 4; major = 0; persist = 0; shadow = true; durable = false; combines = false };
      formulas = weak;
    }

abbrev pub tampered_one : Trace
tampered_one =
    answered (Do.Drain 0) Say.Empty
    ∷ answered (Do.Read 0 1) (Say.Got (filled_line 0) 0)
    ∷ answered (Do.Peek 201) (Say.Raw (line_of (range_with_len 201 55 ++ range_with_len 0 9)))
    ∷ answered (Do.Post 0 0 (filled_line 251)) Say.Ok
    ∷ answered (Do.Flip 64 61) Say.Ok
    ∷ answered (Do.Post 0 64 (filled_line 10)) Say.Ok
    ∷ answered Do.On Say.Already
    ∷ answered (Do.Post 0 1 (filled_line 243)) Say.Ok
    ∷ answered Do.Turn Say.Idle
    ∷ answered Do.Flush Say.Clean
    ∷ answered (Do.Post 0 64 (filled_line 189)) Say.Ok
    ∷ answered (Do.Cut 7) Say.Ok
    ∷ answered_with (Do.Fence 0) ((Seal 0 (ctr 0 1) (line_of (250 ∷ 249 ∷ 248 ∷ 255 ∷ 254 ∷ 253 ∷ 252 ∷ 243 ∷ 242 ∷ 241 ∷ 240 ∷ 247 ∷ 246 ∷ 245 ∷ 244 ∷ 235 ∷ 234 ∷ 233 ∷ 232 ∷ 239 ∷ 238 ∷ 237 ∷ 236 ∷ 227 ∷ 226 ∷ 225 ∷ 224 ∷ 231 ∷ 230 ∷ 229 ∷ 228 ∷ 219 ∷ 218 ∷ 217 ∷ 216 ∷ 223 ∷ 222 ∷ 221 ∷ 220 ∷ 211 ∷ 210 ∷ 209 ∷ 208 ∷ 215 ∷ 214 ∷ 213 ∷ 212 ∷ 203 ∷ 202 ∷ 201 ∷ 200 ∷ 207 ∷ 206 ∷ 205 ∷ 204 ∷ 195 ∷ 194 ∷ 193 ∷ 192 ∷ 199 ∷ 198 ∷ 197 ∷ 196 ∷ 187 ∷ [])) (short_tag 81)) ∷ []) (Say.CutLost (Some 1) 7)
    ∷ answered Do.On (Say.Recovered 255 5 3)
    ∷ answered Do.On Say.Already
    ∷ answered (Do.Drain 0) Say.Empty
    ∷ answered (Do.Drain 1) Say.Empty
    ∷ answered (Do.Post 0 1 (filled_line 203)) Say.Ok
    ∷ answered (Do.Read 0 64) (Say.Refused None (Place.Line 64) 0)
    ∷ answered_with (Do.Drain 0) ((Seal 1 (ctr 0 1) (line_of (201 ∷ 200 ∷ 207 ∷ 206 ∷ 205 ∷ 204 ∷ 195 ∷ 194 ∷ 193 ∷ 192 ∷ 199 ∷ 198 ∷ 197 ∷ 196 ∷ 219 ∷ 218 ∷ 217 ∷ 216 ∷ 223 ∷ 222 ∷ 221 ∷ 220 ∷ 211 ∷ 210 ∷ 209 ∷ 208 ∷ 215 ∷ 214 ∷ 213 ∷ 212 ∷ 235 ∷ 234 ∷ 233 ∷ 232 ∷ 239 ∷ 238 ∷ 237 ∷ 236 ∷ 227 ∷ 226 ∷ 225 ∷ 224 ∷ 231 ∷ 230 ∷ 229 ∷ 228 ∷ 251 ∷ 250 ∷ 249 ∷ 248 ∷ 255 ∷ 254 ∷ 253 ∷ 252 ∷ 243 ∷ 242 ∷ 241 ∷ 240 ∷ 247 ∷ 246 ∷ 245 ∷ 244 ∷ 139 ∷ 138 ∷ [])) (short_tag 16)) ∷ []) (Say.Drained 6)
    ∷ answered (Do.Read 0 64) (Say.Refused None (Place.Line 64) 1)
    ∷ answered (Do.Part 0 0 59 4 (line_of (replicate 4 50 ++ replicate 60 0))) Say.Ok
    ∷ answered_with (Do.Drain 0) ((Seal 0 (ctr 0 2) (line_of (249 ∷ 248 ∷ 255 ∷ 254 ∷ 253 ∷ 252 ∷ 243 ∷ 242 ∷ 241 ∷ 240 ∷ 247 ∷ 246 ∷ 245 ∷ 244 ∷ 235 ∷ 234 ∷ 233 ∷ 232 ∷ 239 ∷ 238 ∷ 237 ∷ 236 ∷ 227 ∷ 226 ∷ 225 ∷ 224 ∷ 231 ∷ 230 ∷ 229 ∷ 228 ∷ 219 ∷ 218 ∷ 217 ∷ 216 ∷ 223 ∷ 222 ∷ 221 ∷ 220 ∷ 211 ∷ 210 ∷ 209 ∷ 208 ∷ 215 ∷ 214 ∷ 213 ∷ 212 ∷ 203 ∷ 202 ∷ 201 ∷ 200 ∷ 207 ∷ 206 ∷ 205 ∷ 204 ∷ 195 ∷ 194 ∷ 193 ∷ 192 ∷ 199 ∷ 15 ∷ 12 ∷ 13 ∷ 114 ∷ 186 ∷ [])) (short_tag 18)) ∷ []) (Say.Drained 4)
    ∷ answered (Do.Read 0 0) (Say.Got (line_of (replicate 59 251 ++ replicate 4 50 ++ 251 ∷ [])) 0)
    ∷ answered (Do.Drain 0) Say.Empty
    ∷ answered (Do.Drain 0) Say.Empty
    ∷ answered (Do.Part 1 1 6 57 (line_of (replicate 57 47 ++ replicate 7 0))) Say.Ok
    ∷ answered_with (Do.Drain 1) ((Seal 1 (ctr 0 2) (line_of (200 ∷ 207 ∷ 206 ∷ 205 ∷ 204 ∷ 195 ∷ 38 ∷ 37 ∷ 36 ∷ 35 ∷ 34 ∷ 33 ∷ 32 ∷ 63 ∷ 62 ∷ 61 ∷ 60 ∷ 59 ∷ 58 ∷ 57 ∷ 56 ∷ 55 ∷ 54 ∷ 53 ∷ 52 ∷ 51 ∷ 50 ∷ 49 ∷ 48 ∷ 15 ∷ 14 ∷ 13 ∷ 12 ∷ 11 ∷ 10 ∷ 9 ∷ 8 ∷ 7 ∷ 6 ∷ 5 ∷ 4 ∷ 3 ∷ 2 ∷ 1 ∷ 0 ∷ 31 ∷ 30 ∷ 29 ∷ 28 ∷ 27 ∷ 26 ∷ 25 ∷ 24 ∷ 23 ∷ 22 ∷ 21 ∷ 20 ∷ 19 ∷ 18 ∷ 17 ∷ 16 ∷ 111 ∷ 110 ∷ 137 ∷ [])) (short_tag 183)) ∷ []) (Say.Drained 4)
    ∷ answered (Do.Drain 1) Say.Empty
    ∷ answered (Do.Post 0 0 (filled_line 209)) Say.Ok
    ∷ answered (Do.Part 0 0 32 19 (line_of (replicate 19 229 ++ replicate 45 0))) Say.Ok
    ∷ answered (Do.Post 1 1 (filled_line 186)) Say.Ok
    ∷ answered (Do.Read 0 0) (Say.Got (line_of (replicate 32 209 ++ replicate 19 229 ++ replicate 13 209)) 0)
    ∷ answered (Do.Read 0 64) (Say.Refused None (Place.Line 64) 1)
    ∷ answered (Do.Post 0 1 (filled_line 207)) Say.Ok
    ∷ answered_with (Do.Drain 1) ((Seal 1 (ctr 0 3) (line_of (190 ∷ 191 ∷ 188 ∷ 189 ∷ 178 ∷ 179 ∷ 176 ∷ 177 ∷ 182 ∷ 183 ∷ 180 ∷ 181 ∷ 170 ∷ 171 ∷ 168 ∷ 169 ∷ 174 ∷ 175 ∷ 172 ∷ 173 ∷ 162 ∷ 163 ∷ 160 ∷ 161 ∷ 166 ∷ 167 ∷ 164 ∷ 165 ∷ 154 ∷ 155 ∷ 152 ∷ 153 ∷ 158 ∷ 159 ∷ 156 ∷ 157 ∷ 146 ∷ 147 ∷ 144 ∷ 145 ∷ 150 ∷ 151 ∷ 148 ∷ 149 ∷ 138 ∷ 139 ∷ 136 ∷ 137 ∷ 142 ∷ 143 ∷ 140 ∷ 141 ∷ 130 ∷ 131 ∷ 128 ∷ 129 ∷ 134 ∷ 135 ∷ 132 ∷ 133 ∷ 250 ∷ 251 ∷ 248 ∷ 249 ∷ [])) (short_tag 18)) ∷ []) (Say.Drained 4)
    ∷ answered (Do.Post 0 1 (filled_line 250)) Say.Ok
    ∷ answered (Do.Drain 1) Say.Empty
    ∷ answered (Do.Flip 321 29) Say.Ok
    ∷ answered (Do.Post 0 0 (filled_line 88)) Say.Ok
    ∷ answered (Do.Post 0 0 (filled_line 184)) Say.Ok
    ∷ answered (Do.Post 0 0 (filled_line 162)) Say.Ok
    ∷ answered (Do.Post 0 0 (filled_line 109)) Say.Ok
    ∷ answered (Do.Flip 1 481) Say.Ok
    ∷ answered_with (Do.Drain 0) ((Seal 0 (ctr 0 3) (line_of (210 ∷ 213 ∷ 212 ∷ 215 ∷ 214 ∷ 217 ∷ 216 ∷ 219 ∷ 218 ∷ 221 ∷ 220 ∷ 223 ∷ 222 ∷ 193 ∷ 192 ∷ 195 ∷ 194 ∷ 197 ∷ 196 ∷ 199 ∷ 198 ∷ 201 ∷ 200 ∷ 203 ∷ 202 ∷ 205 ∷ 204 ∷ 207 ∷ 206 ∷ 241 ∷ 240 ∷ 243 ∷ 242 ∷ 245 ∷ 244 ∷ 247 ∷ 246 ∷ 249 ∷ 248 ∷ 251 ∷ 250 ∷ 253 ∷ 252 ∷ 255 ∷ 254 ∷ 225 ∷ 224 ∷ 227 ∷ 226 ∷ 229 ∷ 228 ∷ 231 ∷ 230 ∷ 233 ∷ 232 ∷ 235 ∷ 234 ∷ 237 ∷ 236 ∷ 239 ∷ 238 ∷ 145 ∷ 144 ∷ 147 ∷ [])) (short_tag 83)) ∷ []) (Say.Drained 4)
    ∷ answered_with (Do.Fence 0) ((Seal 0 (ctr 0 4) (line_of (213 ∷ 212 ∷ 215 ∷ 214 ∷ 217 ∷ 216 ∷ 219 ∷ 218 ∷ 221 ∷ 220 ∷ 223 ∷ 222 ∷ 193 ∷ 192 ∷ 195 ∷ 194 ∷ 197 ∷ 196 ∷ 199 ∷ 198 ∷ 201 ∷ 200 ∷ 203 ∷ 202 ∷ 205 ∷ 204 ∷ 207 ∷ 206 ∷ 241 ∷ 240 ∷ 243 ∷ 242 ∷ 193 ∷ 192 ∷ 195 ∷ 194 ∷ 205 ∷ 204 ∷ 207 ∷ 206 ∷ 201 ∷ 200 ∷ 203 ∷ 202 ∷ 213 ∷ 212 ∷ 215 ∷ 214 ∷ 209 ∷ 208 ∷ 211 ∷ 230 ∷ 233 ∷ 232 ∷ 235 ∷ 234 ∷ 237 ∷ 236 ∷ 239 ∷ 238 ∷ 145 ∷ 144 ∷ 147 ∷ 146 ∷ [])) (short_tag 32)) ∷ (Seal 1 (ctr 0 4) (line_of (202 ∷ 201 ∷ 200 ∷ 199 ∷ 198 ∷ 197 ∷ 196 ∷ 195 ∷ 194 ∷ 193 ∷ 192 ∷ 223 ∷ 222 ∷ 221 ∷ 220 ∷ 219 ∷ 218 ∷ 217 ∷ 216 ∷ 215 ∷ 214 ∷ 213 ∷ 212 ∷ 211 ∷ 210 ∷ 209 ∷ 208 ∷ 239 ∷ 238 ∷ 237 ∷ 236 ∷ 235 ∷ 234 ∷ 233 ∷ 232 ∷ 231 ∷ 230 ∷ 229 ∷ 228 ∷ 227 ∷ 226 ∷ 225 ∷ 224 ∷ 255 ∷ 254 ∷ 253 ∷ 252 ∷ 251 ∷ 250 ∷ 249 ∷ 248 ∷ 247 ∷ 246 ∷ 245 ∷ 244 ∷ 243 ∷ 242 ∷ 241 ∷ 240 ∷ 143 ∷ 142 ∷ 141 ∷ 140 ∷ 139 ∷ [])) (short_tag 85)) ∷ (Seal 1 (ctr 0 5) (line_of (252 ∷ 253 ∷ 242 ∷ 243 ∷ 240 ∷ 241 ∷ 246 ∷ 247 ∷ 244 ∷ 245 ∷ 234 ∷ 235 ∷ 232 ∷ 233 ∷ 238 ∷ 239 ∷ 236 ∷ 237 ∷ 226 ∷ 227 ∷ 224 ∷ 225 ∷ 230 ∷ 231 ∷ 228 ∷ 229 ∷ 218 ∷ 219 ∷ 216 ∷ 217 ∷ 222 ∷ 223 ∷ 220 ∷ 221 ∷ 210 ∷ 211 ∷ 208 ∷ 209 ∷ 214 ∷ 215 ∷ 212 ∷ 213 ∷ 202 ∷ 203 ∷ 200 ∷ 201 ∷ 206 ∷ 207 ∷ 204 ∷ 205 ∷ 194 ∷ 195 ∷ 192 ∷ 193 ∷ 198 ∷ 199 ∷ 196 ∷ 197 ∷ 186 ∷ 187 ∷ 184 ∷ 185 ∷ 190 ∷ 191 ∷ [])) (short_tag 20)) ∷ (Seal 0 (ctr 0 5) (line_of (93 ∷ 94 ∷ 95 ∷ range_with_len 80 8 ++ range_with_len 72 8 ++ range_with_len 64 8 ++ range_with_len 120 8 ++ range_with_len 112 8 ++ range_with_len 104 8 ++ range_with_len 96 8 ++ range_with_len 24 5)) (short_tag 85)) ∷ (Seal 0 (ctr 0 6) (line_of (190 ∷ 191 ∷ range_with_len 176 8 ++ range_with_len 168 8 ++ range_with_len 160 8 ++ range_with_len 152 8 ++ range_with_len 144 8 ++ range_with_len 136 8 ++ range_with_len 128 8 ++ range_with_len 248 6)) (short_tag 22)) ∷ (Seal 0 (ctr 0 7) (line_of (165 ∷ 170 ∷ 171 ∷ 168 ∷ 169 ∷ 174 ∷ 175 ∷ 172 ∷ 173 ∷ 178 ∷ 179 ∷ 176 ∷ 177 ∷ 182 ∷ 183 ∷ 180 ∷ 181 ∷ 186 ∷ 187 ∷ 184 ∷ 185 ∷ 190 ∷ 191 ∷ 188 ∷ 189 ∷ 130 ∷ 131 ∷ 128 ∷ 129 ∷ 134 ∷ 135 ∷ 132 ∷ 133 ∷ 138 ∷ 139 ∷ 136 ∷ 137 ∷ 142 ∷ 143 ∷ 140 ∷ 141 ∷ 146 ∷ 147 ∷ 144 ∷ 145 ∷ 150 ∷ 151 ∷ 148 ∷ 149 ∷ 154 ∷ 155 ∷ 152 ∷ 153 ∷ 158 ∷ 159 ∷ 156 ∷ 157 ∷ 226 ∷ 227 ∷ 224 ∷ 225 ∷ 230 ∷ 231 ∷ 228 ∷ [])) (short_tag 87)) ∷ (Seal 0 (ctr 0 8) (line_of (101 ∷ 100 ∷ 103 ∷ 102 ∷ 97 ∷ 96 ∷ 99 ∷ 98 ∷ 125 ∷ 124 ∷ 127 ∷ 126 ∷ 121 ∷ 120 ∷ 123 ∷ 122 ∷ 117 ∷ 116 ∷ 119 ∷ 118 ∷ 113 ∷ 112 ∷ 115 ∷ 114 ∷ 77 ∷ 76 ∷ 79 ∷ 78 ∷ 73 ∷ 72 ∷ 75 ∷ 74 ∷ 69 ∷ 68 ∷ 71 ∷ 70 ∷ 65 ∷ 64 ∷ 67 ∷ 66 ∷ 93 ∷ 92 ∷ 95 ∷ 94 ∷ 89 ∷ 88 ∷ 91 ∷ 90 ∷ 85 ∷ 84 ∷ 87 ∷ 86 ∷ 81 ∷ 80 ∷ 83 ∷ 82 ∷ 45 ∷ 44 ∷ 47 ∷ 46 ∷ 41 ∷ 40 ∷ 43 ∷ 42 ∷ [])) (short_tag 24)) ∷ []) (Say.Fenced 7 31)
    ∷ answered (Do.Flip 322 215) Say.Ok
    ∷ answered (Do.Drain 1) Say.Empty
    ∷ answered (Do.Drain 1) Say.Empty
    ∷ answered Do.Turn Say.Idle
    ∷ answered (Do.Post 0 0 (filled_line 144)) Say.Ok
    ∷ answered_with (Do.Drain 0) ((Seal 0 (ctr 0 9) (line_of (range_with_len 153 7 ++ range_with_len 128 16 ++ range_with_len 176 16 ++ range_with_len 160 16 ++ range_with_len 208 9)) (short_tag 89)) ∷ []) (Say.Drained 4)
    ∷ answered (Do.Drain 0) Say.Empty
    ∷ answered (Do.Move 281 0) Say.Ok
    ∷ answered (Do.Drain 0) Say.Empty
    ∷ answered Do.Turn Say.Idle
    ∷ answered Do.Flush (Say.Flushed 0 1)
    ∷ answered (Do.Loss 8) (Say.LossSet 1)
    ∷ answered (Do.Post 0 64 (filled_line 58)) Say.Ok
    ∷ answered (Do.Post 0 64 (filled_line 92)) Say.Ok
    ∷ answered (Do.Drain 1) Say.Empty
    ∷ answered (Do.Drain 1) Say.Empty
    ∷ answered (Do.Peek 155) (Say.Raw (line_of (range_with_len 155 64)))
    ∷ answered (Do.Read 0 0) (Say.Refused None (Place.Line 0) 0)
    ∷ answered (Do.Part 0 0 11 53 (line_of (replicate 53 197 ++ replicate 11 0))) Say.Ok
    ∷ answered (Do.Flip 1 180) Say.Ok
    ∷ answered (Do.Post 0 1 (filled_line 1)) Say.Ok
    ∷ answered (Do.Fence 0) (Say.Refused (Some 0) (Place.Meta 2) 0)
    ∷ answered (Do.Peek 322) (Say.Raw (line_of (replicate 26 0 ++ 128 ∷ replicate 37 0)))
    ∷ answered (Do.Read 0 64) (Say.Got (filled_line 92) 0)
    ∷ answered (Do.Post 0 64 (filled_line 237)) Say.Ok
    ∷ answered (Do.Peek 242) (Say.Raw (line_of (range_with_len 242 14 ++ range_with_len 0 50)))
    ∷ answered (Do.Post 0 64 (filled_line 185)) Say.Ok
    ∷ answered (Do.Post 0 64 (filled_line 246)) Say.Ok
    ∷ answered Do.Turn Say.Idle
    ∷ answered (Do.Post 0 1 (filled_line 4)) Say.Ok
    ∷ answered Do.On Say.Already
    ∷ answered (Do.Peek 52) (Say.Raw (line_of (range_with_len 52 64)))
    ∷ answered (Do.Read 1 0) (Say.Refused None (Place.Line 0) 0)
    ∷ answered (Do.Read 0 1) (Say.Got (filled_line 4) 0)
    ∷ []

-- With tampering, 80 commands
abbrev pub tampered_two_setup : Setup
tampered_two_setup =
    record {
      shape = record { levels = 1; sets = 1; ways = 2; loss = 2; major = 7; persist = 0; shadow = true; durable = false; combines = false };
      formulas = weak;
    }

abbrev pub tampered_two : Trace
tampered_two =
    answered (Do.Post 0 70 (filled_line 42)) Say.Ok
    ∷ answered Do.On Say.Already
    ∷ answered (Do.Drain 1) Say.Empty
    ∷ answered Do.Turn Say.Idle
    ∷ answered Do.Off Say.Ok
    ∷ answered Do.On (Say.Recovered 0 1 0)
    ∷ answered (Do.Post 0 5 (filled_line 147)) Say.Ok
    ∷ answered (Do.Cut 7) Say.Ok
    ∷ answered (Do.Post 0 5 (filled_line 215)) Say.Ok
    ∷ answered (Do.Post 1 5 (filled_line 79)) Say.Ok
    ∷ answered Do.Turn Say.Idle
    ∷ answered (Do.Part 0 5 51 12 (line_of (replicate 12 92 ++ replicate 52 0))) Say.Ok
    ∷ answered Do.On Say.Already
    ∷ answered Do.On Say.Already
    ∷ answered_with (Do.Drain 1) ((Seal 5 (ctr 7 1) (line_of (66 ∷ 65 ∷ 64 ∷ 95 ∷ 94 ∷ 93 ∷ 92 ∷ 91 ∷ 90 ∷ 89 ∷ 88 ∷ 87 ∷ 86 ∷ 85 ∷ 84 ∷ 83 ∷ 82 ∷ 81 ∷ 80 ∷ 111 ∷ 110 ∷ 109 ∷ 108 ∷ 107 ∷ 106 ∷ 105 ∷ 104 ∷ 103 ∷ 102 ∷ 101 ∷ 100 ∷ 99 ∷ 98 ∷ 97 ∷ 96 ∷ 127 ∷ 126 ∷ 125 ∷ 124 ∷ 123 ∷ 122 ∷ 121 ∷ 120 ∷ 119 ∷ 118 ∷ 117 ∷ 116 ∷ 115 ∷ 114 ∷ 113 ∷ 112 ∷ 15 ∷ 14 ∷ 13 ∷ 12 ∷ 11 ∷ 10 ∷ 9 ∷ 8 ∷ 7 ∷ 6 ∷ 5 ∷ 4 ∷ 3 ∷ [])) (short_tag 83)) ∷ []) (Say.Drained 6)
    ∷ answered_with (Do.Fence 0) ((Seal 5 (ctr 7 2) (line_of (157 ∷ 156 ∷ 131 ∷ 130 ∷ 129 ∷ 128 ∷ 135 ∷ 134 ∷ 133 ∷ 132 ∷ 139 ∷ 138 ∷ 137 ∷ 136 ∷ 143 ∷ 142 ∷ 141 ∷ 140 ∷ 179 ∷ 178 ∷ 177 ∷ 176 ∷ 183 ∷ 182 ∷ 181 ∷ 180 ∷ 187 ∷ 186 ∷ 185 ∷ 184 ∷ 191 ∷ 190 ∷ 189 ∷ 188 ∷ 163 ∷ 162 ∷ 161 ∷ 160 ∷ 167 ∷ 166 ∷ 165 ∷ 164 ∷ 171 ∷ 170 ∷ 169 ∷ 168 ∷ 175 ∷ 174 ∷ 173 ∷ 172 ∷ 211 ∷ 210 ∷ 209 ∷ 208 ∷ 215 ∷ 214 ∷ 213 ∷ 212 ∷ 219 ∷ 218 ∷ 217 ∷ 216 ∷ 223 ∷ 222 ∷ [])) (short_tag 16)) ∷ []) (Say.CutKept (Some 0) 1)
    ∷ answered Do.On (Say.Recovered 128 5 7)
    ∷ answered Do.Turn Say.Idle
    ∷ answered Do.Turn Say.Idle
    ∷ answered (Do.Back 257) Say.NoSnap
    ∷ answered (Do.Read 0 70) (Say.Got (filled_line 0) 0)
    ∷ answered (Do.Post 1 70 (filled_line 93)) Say.Ok
    ∷ answered_with (Do.Drain 1) ((Seal 70 (ctr 7 1) (line_of (19 ∷ 18 ∷ 13 ∷ 12 ∷ 15 ∷ 14 ∷ 9 ∷ 8 ∷ 11 ∷ 10 ∷ 5 ∷ 4 ∷ 7 ∷ 6 ∷ 1 ∷ 0 ∷ 3 ∷ 2 ∷ 61 ∷ 60 ∷ 63 ∷ 62 ∷ 57 ∷ 56 ∷ 59 ∷ 58 ∷ 53 ∷ 52 ∷ 55 ∷ 54 ∷ 49 ∷ 48 ∷ 51 ∷ 50 ∷ 45 ∷ 44 ∷ 47 ∷ 46 ∷ 41 ∷ 40 ∷ 43 ∷ 42 ∷ 37 ∷ 36 ∷ 39 ∷ 38 ∷ 33 ∷ 32 ∷ 35 ∷ 34 ∷ 221 ∷ 220 ∷ 223 ∷ 222 ∷ 217 ∷ 216 ∷ 219 ∷ 218 ∷ 213 ∷ 212 ∷ 215 ∷ 214 ∷ 209 ∷ 208 ∷ [])) (short_tag 80)) ∷ []) (Say.Drained 6)
    ∷ answered Do.Snap Say.Ok
    ∷ answered (Do.Post 0 70 (filled_line 43)) Say.Ok
    ∷ answered (Do.Post 0 0 (filled_line 95)) Say.Ok
    ∷ answered_with (Do.Fence 0) ((Seal 70 (ctr 7 2) (line_of (100 ∷ 123 ∷ 122 ∷ 121 ∷ 120 ∷ 127 ∷ 126 ∷ 125 ∷ 124 ∷ 115 ∷ 114 ∷ 113 ∷ 112 ∷ 119 ∷ 118 ∷ 117 ∷ 116 ∷ 75 ∷ 74 ∷ 73 ∷ 72 ∷ 79 ∷ 78 ∷ 77 ∷ 76 ∷ 67 ∷ 66 ∷ 65 ∷ 64 ∷ 71 ∷ 70 ∷ 69 ∷ 68 ∷ 91 ∷ 90 ∷ 89 ∷ 88 ∷ 95 ∷ 94 ∷ 93 ∷ 92 ∷ 83 ∷ 82 ∷ 81 ∷ 80 ∷ 87 ∷ 86 ∷ 85 ∷ 84 ∷ 171 ∷ 170 ∷ 169 ∷ 168 ∷ 175 ∷ 174 ∷ 173 ∷ 172 ∷ 163 ∷ 162 ∷ 161 ∷ 160 ∷ 167 ∷ 166 ∷ 165 ∷ [])) (short_tag 147)) ∷ (Seal 0 (ctr 7 1) (line_of (87 ∷ 86 ∷ 85 ∷ 84 ∷ 83 ∷ 82 ∷ 81 ∷ 80 ∷ 79 ∷ 78 ∷ 77 ∷ 76 ∷ 75 ∷ 74 ∷ 73 ∷ 72 ∷ 71 ∷ 70 ∷ 69 ∷ 68 ∷ 67 ∷ 66 ∷ 65 ∷ 64 ∷ 127 ∷ 126 ∷ 125 ∷ 124 ∷ 123 ∷ 122 ∷ 121 ∷ 120 ∷ 119 ∷ 118 ∷ 117 ∷ 116 ∷ 115 ∷ 114 ∷ 113 ∷ 112 ∷ 111 ∷ 110 ∷ 109 ∷ 108 ∷ 107 ∷ 106 ∷ 105 ∷ 104 ∷ 103 ∷ 102 ∷ 101 ∷ 100 ∷ 99 ∷ 98 ∷ 97 ∷ 96 ∷ 31 ∷ 30 ∷ 29 ∷ 28 ∷ 27 ∷ 26 ∷ 25 ∷ 24 ∷ [])) (short_tag 22)) ∷ []) (Say.Fenced 2 10)
    ∷ answered (Do.Drain 0) Say.Empty
    ∷ answered (Do.Read 0 70) (Say.Got (filled_line 43) 0)
    ∷ answered (Do.Part 0 0 36 20 (line_of (replicate 20 178 ++ replicate 44 0))) Say.Ok
    ∷ answered (Do.Post 0 5 (filled_line 69)) Say.Ok
    ∷ answered (Do.Part 0 0 6 56 (line_of (replicate 56 173 ++ replicate 8 0))) Say.Ok
    ∷ answered (Do.Post 1 70 (filled_line 101)) Say.Ok
    ∷ answered_with (Do.Drain 0) ((Seal 0 (ctr 7 2) (line_of (86 ∷ 85 ∷ 84 ∷ 83 ∷ 82 ∷ 81 ∷ 80 ∷ 79 ∷ 78 ∷ 77 ∷ 76 ∷ 75 ∷ 74 ∷ 73 ∷ 72 ∷ 71 ∷ 70 ∷ 69 ∷ 68 ∷ 67 ∷ 66 ∷ 65 ∷ 64 ∷ 127 ∷ 126 ∷ 125 ∷ 124 ∷ 123 ∷ 122 ∷ 121 ∷ 120 ∷ 119 ∷ 118 ∷ 117 ∷ 116 ∷ 115 ∷ 159 ∷ 156 ∷ 157 ∷ 130 ∷ 131 ∷ 128 ∷ 129 ∷ 134 ∷ 135 ∷ 132 ∷ 133 ∷ 138 ∷ 139 ∷ 136 ∷ 137 ∷ 142 ∷ 143 ∷ 140 ∷ 141 ∷ 242 ∷ 30 ∷ 29 ∷ 28 ∷ 27 ∷ 26 ∷ 25 ∷ 24 ∷ 23 ∷ [])) (short_tag 85)) ∷ []) (Say.Drained 5)
    ∷ answered (Do.Flip 326 121) Say.Ok
    ∷ answered (Do.Part 1 5 20 26 (line_of (replicate 26 153 ++ replicate 38 0))) Say.Ok
    ∷ answered (Do.Post 0 5 (filled_line 188)) Say.Ok
    ∷ answered_with (Do.Drain 0) ((Seal 5 (ctr 7 3) (line_of (74 ∷ 85 ∷ 84 ∷ 87 ∷ 86 ∷ 81 ∷ 80 ∷ 83 ∷ 82 ∷ 93 ∷ 92 ∷ 95 ∷ 94 ∷ 89 ∷ 88 ∷ 91 ∷ 90 ∷ 101 ∷ 100 ∷ 103 ∷ 102 ∷ 97 ∷ 96 ∷ 99 ∷ 98 ∷ 109 ∷ 108 ∷ 111 ∷ 110 ∷ 105 ∷ 104 ∷ 107 ∷ 106 ∷ 117 ∷ 116 ∷ 119 ∷ 118 ∷ 113 ∷ 112 ∷ 115 ∷ 114 ∷ 125 ∷ 124 ∷ 127 ∷ 126 ∷ 121 ∷ 120 ∷ 123 ∷ 122 ∷ 5 ∷ 4 ∷ 7 ∷ 6 ∷ 1 ∷ 0 ∷ 3 ∷ 2 ∷ 13 ∷ 12 ∷ 15 ∷ 14 ∷ 9 ∷ 8 ∷ 11 ∷ [])) (short_tag 81)) ∷ []) (Say.Drained 4)
    ∷ answered_with (Do.Drain 0) ((Seal 0 (ctr 7 3) (line_of (85 ∷ 84 ∷ 83 ∷ 82 ∷ 81 ∷ 80 ∷ 189 ∷ 188 ∷ 191 ∷ 190 ∷ 185 ∷ 184 ∷ 187 ∷ 186 ∷ 181 ∷ 180 ∷ 183 ∷ 182 ∷ 177 ∷ 176 ∷ 179 ∷ 178 ∷ 141 ∷ 140 ∷ 143 ∷ 142 ∷ 137 ∷ 136 ∷ 139 ∷ 138 ∷ 133 ∷ 132 ∷ 135 ∷ 134 ∷ 129 ∷ 128 ∷ 131 ∷ 130 ∷ 157 ∷ 156 ∷ 159 ∷ 158 ∷ 153 ∷ 152 ∷ 155 ∷ 154 ∷ 149 ∷ 148 ∷ 151 ∷ 150 ∷ 145 ∷ 144 ∷ 147 ∷ 146 ∷ 237 ∷ 236 ∷ 239 ∷ 238 ∷ 233 ∷ 232 ∷ 235 ∷ 234 ∷ 23 ∷ 22 ∷ [])) (short_tag 20)) ∷ []) (Say.Drained 4)
    ∷ answered (Do.Part 0 5 62 2 (line_of (177 ∷ 177 ∷ replicate 62 0))) Say.Ok
    ∷ answered Do.Turn Say.Idle
    ∷ answered Do.Snap Say.Ok
    ∷ answered (Do.Post 0 70 (filled_line 15)) Say.Ok
    ∷ answered Do.Turn Say.Idle
    ∷ answered_with (Do.Drain 0) ((Seal 5 (ctr 7 4) (line_of (range_with_len 172 4 ++ range_with_len 168 4 ++ range_with_len 164 4 ++ range_with_len 160 4 ++ range_with_len 156 4 ++ range_with_len 152 4 ++ range_with_len 148 4 ++ range_with_len 144 4 ++ range_with_len 140 4 ++ range_with_len 136 4 ++ range_with_len 132 4 ++ range_with_len 128 4 ++ range_with_len 252 4 ++ range_with_len 248 4 ++ range_with_len 244 4 ++ range_with_len 240 4)) (short_tag 22)) ∷ []) (Say.Drained 5)
    ∷ answered (Do.Post 0 0 (filled_line 131)) Say.Ok
    ∷ answered_with (Do.Drain 0) ((Seal 5 (ctr 7 5) (line_of (173 ∷ 174 ∷ 175 ∷ range_with_len 168 4 ++ range_with_len 164 4 ++ range_with_len 160 4 ++ range_with_len 156 4 ++ range_with_len 152 4 ++ range_with_len 148 4 ++ range_with_len 144 4 ++ range_with_len 140 4 ++ range_with_len 136 4 ++ range_with_len 132 4 ++ range_with_len 128 4 ++ range_with_len 252 4 ++ range_with_len 248 4 ++ range_with_len 244 4 ++ 240 ∷ 241 ∷ 242 ∷ 254 ∷ 225 ∷ [])) (short_tag 87)) ∷ []) (Say.Drained 4)
    ∷ answered Do.On Say.Already
    ∷ answered (Do.Post 0 0 (filled_line 130)) Say.Ok
    ∷ answered_with (Do.Drain 0) ((Seal 70 (ctr 7 3) (line_of (95 ∷ 94 ∷ 93 ∷ 92 ∷ 91 ∷ 90 ∷ 89 ∷ 88 ∷ 87 ∷ 86 ∷ 85 ∷ 84 ∷ 83 ∷ 82 ∷ 81 ∷ 80 ∷ 111 ∷ 110 ∷ 109 ∷ 108 ∷ 107 ∷ 106 ∷ 105 ∷ 104 ∷ 103 ∷ 102 ∷ 101 ∷ 100 ∷ 99 ∷ 98 ∷ 97 ∷ 96 ∷ 127 ∷ 126 ∷ 125 ∷ 124 ∷ 123 ∷ 122 ∷ 121 ∷ 120 ∷ 119 ∷ 118 ∷ 117 ∷ 116 ∷ 115 ∷ 114 ∷ 113 ∷ 112 ∷ 143 ∷ 142 ∷ 141 ∷ 140 ∷ 139 ∷ 138 ∷ 137 ∷ 136 ∷ 135 ∷ 134 ∷ 133 ∷ 132 ∷ 131 ∷ 130 ∷ 129 ∷ 128 ∷ [])) (short_tag 82)) ∷ []) (Say.Drained 4)
    ∷ answered Do.On Say.Already
    ∷ answered (Do.Loss 16) (Say.LossSet 1)
    ∷ answered (Do.Post 0 70 (filled_line 125)) Say.Ok
    ∷ answered Do.On Say.Already
    ∷ answered (Do.Part 1 0 22 38 (line_of (replicate 38 122 ++ replicate 26 0))) Say.Ok
    ∷ answered (Do.Part 0 0 56 8 (line_of (replicate 8 168 ++ replicate 56 0))) Say.Ok
    ∷ answered (Do.Peek 92) (Say.Raw (line_of (range_with_len 99 64)))
    ∷ answered (Do.Read 1 5) (Say.Got (line_of (replicate 20 188 ++ replicate 26 153 ++ replicate 16 188 ++ 177 ∷ 177 ∷ [])) 0)
    ∷ answered (Do.Post 1 5 (filled_line 246)) Say.Ok
    ∷ answered_with (Do.Drain 1) ((Seal 70 (ctr 7 4) (line_of (52 ∷ 55 ∷ 54 ∷ 49 ∷ 48 ∷ 51 ∷ 50 ∷ 61 ∷ 60 ∷ 63 ∷ 62 ∷ 57 ∷ 56 ∷ 59 ∷ 58 ∷ 5 ∷ 4 ∷ 7 ∷ 6 ∷ 1 ∷ 0 ∷ 3 ∷ 2 ∷ 13 ∷ 12 ∷ 15 ∷ 14 ∷ 9 ∷ 8 ∷ 11 ∷ 10 ∷ 21 ∷ 20 ∷ 23 ∷ 22 ∷ 17 ∷ 16 ∷ 19 ∷ 18 ∷ 29 ∷ 28 ∷ 31 ∷ 30 ∷ 25 ∷ 24 ∷ 27 ∷ 26 ∷ 229 ∷ 228 ∷ 231 ∷ 230 ∷ 225 ∷ 224 ∷ 227 ∷ 226 ∷ 237 ∷ 236 ∷ 239 ∷ 238 ∷ 233 ∷ 232 ∷ 235 ∷ 234 ∷ 245 ∷ [])) (short_tag 149)) ∷ []) (Say.Drained 4)
    ∷ answered_with (Do.Drain 1) ((Seal 5 (ctr 7 6) (line_of (174 ∷ 175 ∷ range_with_len 168 4 ++ range_with_len 164 4 ++ range_with_len 160 4 ++ range_with_len 156 4 ++ 152 ∷ 153 ∷ 191 ∷ 190 ∷ 177 ∷ 176 ∷ 179 ∷ 178 ∷ 181 ∷ 180 ∷ 183 ∷ 182 ∷ 169 ∷ 168 ∷ 171 ∷ 170 ∷ 173 ∷ 172 ∷ 175 ∷ 174 ∷ 161 ∷ 160 ∷ 163 ∷ 162 ∷ 165 ∷ 164 ∷ 167 ∷ 166 ∷ range_with_len 252 4 ++ range_with_len 248 4 ++ range_with_len 244 4 ++ range_with_len 240 4 ++ 225 ∷ 224 ∷ [])) (short_tag 20)) ∷ []) (Say.Drained 4)
    ∷ answered (Do.Post 0 0 (filled_line 248)) Say.Ok
    ∷ answered (Do.Read 0 0) (Say.Got (filled_line 248) 0)
    ∷ answered Do.Stat (Say.Counts (record { reads = 170; writes = 38; latches = 27; tags = 148; digests = 37 }))
    ∷ answered_with (Do.Drain 0) ((Seal 0 (ctr 7 4) (line_of (136 ∷ 143 ∷ 142 ∷ 141 ∷ 140 ∷ 147 ∷ 146 ∷ 145 ∷ 144 ∷ 151 ∷ 150 ∷ 149 ∷ 148 ∷ 155 ∷ 154 ∷ 153 ∷ 152 ∷ 159 ∷ 158 ∷ 157 ∷ 156 ∷ 163 ∷ 162 ∷ 161 ∷ 160 ∷ 167 ∷ 166 ∷ 165 ∷ 164 ∷ 171 ∷ 170 ∷ 169 ∷ 168 ∷ 175 ∷ 174 ∷ 173 ∷ 172 ∷ 179 ∷ 178 ∷ 177 ∷ 176 ∷ 183 ∷ 182 ∷ 181 ∷ 180 ∷ 187 ∷ 186 ∷ 185 ∷ 184 ∷ 191 ∷ 190 ∷ 189 ∷ 188 ∷ 195 ∷ 194 ∷ 193 ∷ 192 ∷ 199 ∷ 198 ∷ 197 ∷ 196 ∷ 203 ∷ 202 ∷ 201 ∷ [])) (short_tag 83)) ∷ []) (Say.Drained 4)
    ∷ answered_with (Do.Drain 0) ((Seal 0 (ctr 7 5) (line_of (142 ∷ 143 ∷ 140 ∷ 141 ∷ 146 ∷ 147 ∷ 144 ∷ 145 ∷ 150 ∷ 151 ∷ 148 ∷ 149 ∷ 154 ∷ 155 ∷ 152 ∷ 153 ∷ 158 ∷ 159 ∷ 156 ∷ 157 ∷ 162 ∷ 163 ∷ 160 ∷ 161 ∷ 166 ∷ 167 ∷ 164 ∷ 165 ∷ 170 ∷ 171 ∷ 168 ∷ 169 ∷ 174 ∷ 175 ∷ 172 ∷ 173 ∷ 178 ∷ 179 ∷ 176 ∷ 177 ∷ 182 ∷ 183 ∷ 180 ∷ 181 ∷ 186 ∷ 187 ∷ 184 ∷ 185 ∷ 190 ∷ 191 ∷ 188 ∷ 189 ∷ 194 ∷ 195 ∷ 192 ∷ 193 ∷ 198 ∷ 199 ∷ 196 ∷ 197 ∷ 202 ∷ 203 ∷ 200 ∷ 201 ∷ [])) (short_tag 18)) ∷ []) (Say.Drained 4)
    ∷ answered Do.Turn Say.Idle
    ∷ answered Do.Flush (Say.Flushed 0 1)
    ∷ answered (Do.Post 0 5 (filled_line 236)) Say.Ok
    ∷ answered (Do.Part 1 0 23 18 (line_of (replicate 18 196 ++ replicate 46 0))) Say.Ok
    ∷ answered (Do.Cut 2) Say.Ok
    ∷ answered_with (Do.Drain 0) ((Seal 70 (ctr 7 5) (line_of (47 ∷ 46 ∷ 41 ∷ 40 ∷ 43 ∷ 42 ∷ 37 ∷ 36 ∷ 39 ∷ 38 ∷ 33 ∷ 32 ∷ 35 ∷ 34 ∷ 29 ∷ 28 ∷ 31 ∷ 30 ∷ 25 ∷ 24 ∷ 27 ∷ 26 ∷ 21 ∷ 20 ∷ 23 ∷ 22 ∷ 17 ∷ 16 ∷ 19 ∷ 18 ∷ 13 ∷ 12 ∷ 15 ∷ 14 ∷ 9 ∷ 8 ∷ 11 ∷ 10 ∷ 5 ∷ 4 ∷ 7 ∷ 6 ∷ 1 ∷ 0 ∷ 3 ∷ 2 ∷ 253 ∷ 252 ∷ 255 ∷ 254 ∷ 249 ∷ 248 ∷ 251 ∷ 250 ∷ 245 ∷ 244 ∷ 247 ∷ 246 ∷ 241 ∷ 240 ∷ 243 ∷ 242 ∷ 237 ∷ 236 ∷ [])) (short_tag 84)) ∷ []) (Say.CutKept None 2)
    ∷ answered Do.On (Say.Recovered 2039 5 8)
    ∷ answered (Do.Read 0 70) (Say.Got (filled_line 125) 0)
    ∷ answered (Do.Cut 4) Say.Ok
    ∷ answered (Do.Part 0 5 61 1 (line_of (132 ∷ replicate 63 0))) Say.Ok
    ∷ answered (Do.Post 0 0 (filled_line 146)) Say.Ok
    ∷ answered Do.On Say.Already
    ∷ answered (Do.Post 1 70 (filled_line 196)) Say.Ok
    ∷ answered (Do.Move 108 70) Say.Ok
    ∷ []

-- With tampering, 80 commands
abbrev pub tampered_three_setup : Setup
tampered_three_setup =
    record {
      shape = record { levels = 2; sets = 2; ways = 1; loss = 4; major = 0; persist = 0; shadow = true; durable = false; combines = false };
      formulas = weak;
    }

abbrev pub tampered_three : Trace
tampered_three =
    answered (Do.Post 0 65 (filled_line 78)) Say.Ok
    ∷ answered (Do.Post 0 65 (filled_line 236)) Say.Ok
    ∷ answered_with (Do.Fence 0) ((Seal 65 (ctr 0 1) (line_of (12 ∷ 13 ∷ 10 ∷ 11 ∷ 8 ∷ 9 ∷ 6 ∷ 7 ∷ 4 ∷ 5 ∷ 2 ∷ 3 ∷ 0 ∷ 1 ∷ 30 ∷ 31 ∷ 28 ∷ 29 ∷ 26 ∷ 27 ∷ 24 ∷ 25 ∷ 22 ∷ 23 ∷ 20 ∷ 21 ∷ 18 ∷ 19 ∷ 16 ∷ 17 ∷ 46 ∷ 47 ∷ 44 ∷ 45 ∷ 42 ∷ 43 ∷ 40 ∷ 41 ∷ 38 ∷ 39 ∷ 36 ∷ 37 ∷ 34 ∷ 35 ∷ 32 ∷ 33 ∷ 62 ∷ 63 ∷ 60 ∷ 61 ∷ 58 ∷ 59 ∷ 56 ∷ 57 ∷ 54 ∷ 55 ∷ 52 ∷ 53 ∷ 50 ∷ 51 ∷ 48 ∷ 49 ∷ 206 ∷ 207 ∷ [])) (short_tag 80)) ∷ (Seal 65 (ctr 0 2) (line_of (175 ∷ range_with_len 168 4 ++ range_with_len 164 4 ++ range_with_len 160 4 ++ range_with_len 188 4 ++ range_with_len 184 4 ++ range_with_len 180 4 ++ range_with_len 176 4 ++ range_with_len 140 4 ++ range_with_len 136 4 ++ range_with_len 132 4 ++ range_with_len 128 4 ++ range_with_len 156 4 ++ range_with_len 152 4 ++ range_with_len 148 4 ++ range_with_len 144 4 ++ 108 ∷ 109 ∷ 110 ∷ [])) (short_tag 147)) ∷ []) (Say.Fenced 2 11)
    ∷ answered (Do.Post 0 65 (filled_line 162)) Say.Ok
    ∷ answered Do.Snap Say.Ok
    ∷ answered (Do.Part 0 65 34 17 (line_of (replicate 17 58 ++ replicate 47 0))) Say.Ok
    ∷ answered_with (Do.Fence 0) ((Seal 65 (ctr 0 3) (line_of (230 ∷ 231 ∷ 228 ∷ 229 ∷ 234 ∷ 235 ∷ 232 ∷ 233 ∷ 238 ∷ 239 ∷ 236 ∷ 237 ∷ 242 ∷ 243 ∷ 240 ∷ 241 ∷ 246 ∷ 247 ∷ 244 ∷ 245 ∷ 250 ∷ 251 ∷ 248 ∷ 249 ∷ 254 ∷ 255 ∷ 252 ∷ 253 ∷ 194 ∷ 195 ∷ 192 ∷ 193 ∷ 198 ∷ 199 ∷ 196 ∷ 197 ∷ 202 ∷ 203 ∷ 200 ∷ 201 ∷ 206 ∷ 207 ∷ 204 ∷ 205 ∷ 210 ∷ 211 ∷ 208 ∷ 209 ∷ 214 ∷ 215 ∷ 212 ∷ 213 ∷ 218 ∷ 219 ∷ 216 ∷ 217 ∷ 222 ∷ 223 ∷ 220 ∷ 221 ∷ 34 ∷ 35 ∷ 32 ∷ 33 ∷ [])) (short_tag 82)) ∷ (Seal 65 (ctr 0 4) (line_of (231 ∷ 228 ∷ 229 ∷ 234 ∷ 235 ∷ 232 ∷ 233 ∷ 238 ∷ 239 ∷ 236 ∷ 237 ∷ 242 ∷ 243 ∷ 240 ∷ 241 ∷ 246 ∷ 247 ∷ 244 ∷ 245 ∷ 250 ∷ 251 ∷ 248 ∷ 249 ∷ 254 ∷ 255 ∷ 252 ∷ 253 ∷ 194 ∷ 195 ∷ 192 ∷ 193 ∷ 198 ∷ 199 ∷ 196 ∷ 93 ∷ 82 ∷ 83 ∷ 80 ∷ 81 ∷ 86 ∷ 87 ∷ 84 ∷ 85 ∷ 74 ∷ 75 ∷ 72 ∷ 73 ∷ 78 ∷ 79 ∷ 76 ∷ 77 ∷ 218 ∷ 219 ∷ 216 ∷ 217 ∷ 222 ∷ 223 ∷ 220 ∷ 221 ∷ 34 ∷ 35 ∷ 32 ∷ 33 ∷ 38 ∷ [])) (short_tag 13)) ∷ []) (Say.Fenced 2 9)
    ∷ answered (Do.Post 0 65 (filled_line 83)) Say.Ok
    ∷ answered Do.Off Say.Ok
    ∷ answered Do.On (Say.Recovered 256 9 4)
    ∷ answered (Do.Flip 1301 22) Say.Ok
    ∷ answered (Do.Part 0 65 38 20 (line_of (replicate 20 46 ++ replicate 44 0))) Say.Ok
    ∷ answered (Do.Post 1 65 (filled_line 66)) Say.Ok
    ∷ answered (Do.Post 1 65 (filled_line 70)) Say.Ok
    ∷ answered_with (Do.Drain 0) ((Seal 65 (ctr 0 5) (line_of (228 ∷ 229 ∷ 234 ∷ 235 ∷ 232 ∷ 233 ∷ 238 ∷ 239 ∷ 236 ∷ 237 ∷ 242 ∷ 243 ∷ 240 ∷ 241 ∷ 246 ∷ 247 ∷ 244 ∷ 245 ∷ 250 ∷ 251 ∷ 248 ∷ 249 ∷ 254 ∷ 255 ∷ 252 ∷ 253 ∷ 194 ∷ 195 ∷ 192 ∷ 193 ∷ 198 ∷ 199 ∷ 196 ∷ 197 ∷ 82 ∷ 83 ∷ 80 ∷ 81 ∷ 66 ∷ 67 ∷ 64 ∷ 65 ∷ 94 ∷ 95 ∷ 92 ∷ 93 ∷ 90 ∷ 91 ∷ 88 ∷ 89 ∷ 86 ∷ 87 ∷ 84 ∷ 85 ∷ 82 ∷ 83 ∷ 80 ∷ 81 ∷ 34 ∷ 35 ∷ 32 ∷ 33 ∷ 38 ∷ 39 ∷ [])) (short_tag 84)) ∷ []) (Say.Drained 7)
    ∷ answered (Do.Cut 2) Say.Ok
    ∷ answered Do.On Say.Already
    ∷ answered Do.Turn Say.Idle
    ∷ answered (Do.Read 0 65) (Say.Got (line_of (replicate 34 162 ++ replicate 4 58 ++ replicate 20 46 ++ replicate 6 162)) 0)
    ∷ answered Do.Flush (Say.Flushed 0 1)
    ∷ answered Do.On Say.Already
    ∷ answered (Do.Drain 0) Say.Empty
    ∷ answered (Do.Drain 0) Say.Empty
    ∷ answered (Do.Post 1 0 (filled_line 177)) Say.Ok
    ∷ answered (Do.Flip 65 353) Say.Ok
    ∷ answered (Do.Post 0 0 (filled_line 8)) Say.Ok
    ∷ answered Do.Turn Say.Idle
    ∷ answered (Do.Cut 8) Say.Ok
    ∷ answered Do.Turn Say.Idle
    ∷ answered_with (Do.Drain 0) ((Seal 0 (ctr 0 1) (line_of (range_with_len 9 7 ++ range_with_len 0 8 ++ range_with_len 24 8 ++ range_with_len 16 8 ++ range_with_len 40 8 ++ range_with_len 32 8 ++ range_with_len 56 8 ++ range_with_len 48 8 ++ 72 ∷ [])) (short_tag 81)) ∷ []) (Say.Drained 5)
    ∷ answered (Do.Loss 16) (Say.LossSet 1)
    ∷ answered Do.On Say.Already
    ∷ answered (Do.Move 543 0) Say.Ok
    ∷ answered (Do.Post 0 65 (filled_line 35)) Say.Ok
    ∷ answered Do.Flush (Say.Flushed 0 1)
    ∷ answered Do.Turn Say.Idle
    ∷ answered (Do.Post 0 65 (filled_line 136)) Say.Ok
    ∷ answered (Do.Part 1 65 52 5 (line_of (replicate 5 134 ++ replicate 59 0))) Say.Ok
    ∷ answered_with (Do.Drain 0) ((Seal 65 (ctr 0 6) (line_of (100 ∷ 107 ∷ 106 ∷ 105 ∷ 104 ∷ 111 ∷ 110 ∷ 109 ∷ 108 ∷ 115 ∷ 114 ∷ 113 ∷ 112 ∷ 119 ∷ 118 ∷ 117 ∷ 116 ∷ 123 ∷ 122 ∷ 121 ∷ 120 ∷ 127 ∷ 126 ∷ 125 ∷ 124 ∷ 67 ∷ 66 ∷ 65 ∷ 64 ∷ 71 ∷ 70 ∷ 69 ∷ 68 ∷ 75 ∷ 74 ∷ 73 ∷ 72 ∷ 79 ∷ 78 ∷ 77 ∷ 76 ∷ 83 ∷ 82 ∷ 81 ∷ 80 ∷ 87 ∷ 86 ∷ 85 ∷ 84 ∷ 91 ∷ 90 ∷ 89 ∷ 88 ∷ 95 ∷ 94 ∷ 93 ∷ 92 ∷ 163 ∷ 162 ∷ 161 ∷ 160 ∷ 167 ∷ 166 ∷ 165 ∷ [])) (short_tag 151)) ∷ []) (Say.CutKept None 1)
    ∷ answered Do.On (Say.Recovered 2044 9 9)
    ∷ answered (Do.Drain 1) Say.Empty
    ∷ answered (Do.Move 1106 1292) Say.Ok
    ∷ answered (Do.Post 0 65 (filled_line 34)) Say.Ok
    ∷ answered (Do.Post 0 65 (filled_line 4)) Say.Ok
    ∷ answered (Do.Part 0 65 1 35 (line_of (replicate 35 242 ++ replicate 29 0))) Say.Ok
    ∷ answered Do.Off Say.Ok
    ∷ answered Do.On (Say.Recovered 0 1 0)
    ∷ answered (Do.Post 0 65 (filled_line 252)) Say.Ok
    ∷ answered (Do.Move 754 1301) Say.Ok
    ∷ answered (Do.Post 0 65 (filled_line 54)) Say.Ok
    ∷ answered (Do.Drain 1) Say.Empty
    ∷ answered_with (Do.Drain 0) ((Seal 65 (ctr 0 7) (line_of (range_with_len 180 4 ++ range_with_len 176 4 ++ range_with_len 172 4 ++ range_with_len 168 4 ++ range_with_len 164 4 ++ range_with_len 160 4 ++ range_with_len 156 4 ++ range_with_len 152 4 ++ range_with_len 148 4 ++ range_with_len 144 4 ++ range_with_len 140 4 ++ range_with_len 136 4 ++ range_with_len 132 4 ++ range_with_len 128 4 ++ range_with_len 124 4 ++ range_with_len 120 4)) (short_tag 86)) ∷ []) (Say.Drained 7)
    ∷ answered (Do.Post 0 0 (filled_line 21)) Say.Ok
    ∷ answered (Do.Read 0 0) (Say.Got (filled_line 21) 0)
    ∷ answered (Do.Read 0 0) (Say.Got (filled_line 21) 0)
    ∷ answered (Do.Post 0 0 (filled_line 196)) Say.Ok
    ∷ answered_with (Do.Drain 0) ((Seal 65 (ctr 0 8) (line_of (127 ∷ 124 ∷ 125 ∷ 122 ∷ 123 ∷ 120 ∷ 121 ∷ 102 ∷ 103 ∷ 100 ∷ 101 ∷ 98 ∷ 99 ∷ 96 ∷ 97 ∷ 110 ∷ 111 ∷ 108 ∷ 109 ∷ 106 ∷ 107 ∷ 104 ∷ 105 ∷ 86 ∷ 87 ∷ 84 ∷ 85 ∷ 82 ∷ 83 ∷ 80 ∷ 81 ∷ 94 ∷ 95 ∷ 92 ∷ 93 ∷ 90 ∷ 91 ∷ 88 ∷ 89 ∷ 70 ∷ 71 ∷ 68 ∷ 69 ∷ 66 ∷ 67 ∷ 64 ∷ 65 ∷ 78 ∷ 79 ∷ 76 ∷ 77 ∷ 74 ∷ 75 ∷ 72 ∷ 73 ∷ 182 ∷ 183 ∷ 180 ∷ 181 ∷ 178 ∷ 179 ∷ 176 ∷ 177 ∷ 190 ∷ [])) (short_tag 153)) ∷ []) (Say.Drained 4)
    ∷ answered (Do.Post 0 0 (filled_line 119)) Say.Ok
    ∷ answered (Do.Peek 915) (Say.Raw (line_of (range_with_len 147 64)))
    ∷ answered (Do.Post 0 65 (filled_line 127)) Say.Ok
    ∷ answered (Do.Drain 1) Say.Empty
    ∷ answered (Do.Post 0 0 (filled_line 182)) Say.Ok
    ∷ answered (Do.Part 0 0 39 11 (line_of (replicate 11 64 ++ replicate 53 0))) Say.Ok
    ∷ answered Do.Turn Say.Idle
    ∷ answered (Do.Post 0 0 (filled_line 172)) Say.Ok
    ∷ answered (Do.Part 0 65 39 22 (line_of (replicate 22 115 ++ replicate 42 0))) Say.Ok
    ∷ answered (Do.Fence 1) (Say.Fenced 0 0)
    ∷ answered (Do.Poke 1024 (filled_line 170)) Say.Ok
    ∷ answered (Do.Read 0 65) (Say.Got (line_of (replicate 39 127 ++ replicate 22 115 ++ 127 ∷ 127 ∷ 127 ∷ [])) 0)
    ∷ answered_with (Do.Drain 0) ((Seal 0 (ctr 0 2) (line_of (23 ∷ 22 ∷ 17 ∷ 16 ∷ 19 ∷ 18 ∷ 29 ∷ 28 ∷ 31 ∷ 30 ∷ 25 ∷ 24 ∷ 27 ∷ 26 ∷ 5 ∷ 4 ∷ 7 ∷ 6 ∷ 1 ∷ 0 ∷ 3 ∷ 2 ∷ 13 ∷ 12 ∷ 15 ∷ 14 ∷ 9 ∷ 8 ∷ 11 ∷ 10 ∷ 53 ∷ 52 ∷ 55 ∷ 54 ∷ 49 ∷ 48 ∷ 51 ∷ 50 ∷ 61 ∷ 60 ∷ 63 ∷ 62 ∷ 57 ∷ 56 ∷ 59 ∷ 58 ∷ 37 ∷ 36 ∷ 39 ∷ 38 ∷ 33 ∷ 32 ∷ 35 ∷ 34 ∷ 45 ∷ 44 ∷ 47 ∷ 46 ∷ 41 ∷ 40 ∷ 43 ∷ 42 ∷ 85 ∷ 84 ∷ [])) (short_tag 18)) ∷ []) (Say.Drained 5)
    ∷ answered (Do.Peek 56) (Say.Raw (line_of (range_with_len 56 64)))
    ∷ answered (Do.Post 0 65 (filled_line 45)) Say.Ok
    ∷ answered (Do.Post 0 65 (filled_line 156)) Say.Ok
    ∷ answered (Do.Post 0 0 (filled_line 41)) Say.Ok
    ∷ answered Do.On Say.Already
    ∷ answered (Do.Back 65) Say.Ok
    ∷ answered (Do.Drain 1) Say.Empty
    ∷ answered_with (Do.Drain 0) ((Seal 0 (ctr 0 3) (line_of (199 ∷ range_with_len 192 4 ++ range_with_len 204 4 ++ range_with_len 200 4 ++ range_with_len 212 4 ++ range_with_len 208 4 ++ range_with_len 220 4 ++ range_with_len 216 4 ++ range_with_len 228 4 ++ range_with_len 224 4 ++ range_with_len 236 4 ++ range_with_len 232 4 ++ range_with_len 244 4 ++ range_with_len 240 4 ++ range_with_len 252 4 ++ range_with_len 248 4 ++ 132 ∷ 133 ∷ 134 ∷ [])) (short_tag 83)) ∷ []) (Say.Drained 4)
    ∷ answered (Do.Loss 3) Say.Range
    ∷ answered Do.Flush (Say.Flushed 0 1)
    ∷ []

-- With tampering, 80 commands
abbrev pub tampered_four_setup : Setup
tampered_four_setup =
    record {
      shape = record { levels = 1; sets = 1; ways = 1; loss = 8; major = 0; persist = 0; shadow = true; durable = false; combines = false };
      formulas = weak;
    }

abbrev pub tampered_four : Trace
tampered_four =
    answered Do.On Say.Already
    ∷ answered (Do.Post 0 1 (filled_line 181)) Say.Ok
    ∷ answered Do.Flush Say.Clean
    ∷ answered (Do.Post 0 1 (filled_line 201)) Say.Ok
    ∷ answered_with (Do.Drain 0) ((Seal 1 (ctr 0 1) (line_of (183 ∷ 182 ∷ 177 ∷ 176 ∷ 179 ∷ 178 ∷ 189 ∷ 188 ∷ 191 ∷ 190 ∷ 185 ∷ 184 ∷ 187 ∷ 186 ∷ 165 ∷ 164 ∷ 167 ∷ 166 ∷ 161 ∷ 160 ∷ 163 ∷ 162 ∷ 173 ∷ 172 ∷ 175 ∷ 174 ∷ 169 ∷ 168 ∷ 171 ∷ 170 ∷ 149 ∷ 148 ∷ 151 ∷ 150 ∷ 145 ∷ 144 ∷ 147 ∷ 146 ∷ 157 ∷ 156 ∷ 159 ∷ 158 ∷ 153 ∷ 152 ∷ 155 ∷ 154 ∷ 133 ∷ 132 ∷ 135 ∷ 134 ∷ 129 ∷ 128 ∷ 131 ∷ 130 ∷ 141 ∷ 140 ∷ 143 ∷ 142 ∷ 137 ∷ 136 ∷ 139 ∷ 138 ∷ 245 ∷ 244 ∷ [])) (short_tag 16)) ∷ []) (Say.Drained 6)
    ∷ answered Do.On Say.Already
    ∷ answered (Do.Part 0 0 55 1 (line_of (217 ∷ replicate 63 0))) Say.Ok
    ∷ answered (Do.Post 1 1 (filled_line 40)) Say.Ok
    ∷ answered Do.Flush (Say.Flushed 0 1)
    ∷ answered (Do.Post 0 0 (filled_line 237)) Say.Ok
    ∷ answered_with (Do.Drain 0) ((Seal 1 (ctr 0 2) (line_of (202 ∷ 205 ∷ 204 ∷ 207 ∷ 206 ∷ 193 ∷ 192 ∷ 195 ∷ 194 ∷ 197 ∷ 196 ∷ 199 ∷ 198 ∷ 217 ∷ 216 ∷ 219 ∷ 218 ∷ 221 ∷ 220 ∷ 223 ∷ 222 ∷ 209 ∷ 208 ∷ 211 ∷ 210 ∷ 213 ∷ 212 ∷ 215 ∷ 214 ∷ 233 ∷ 232 ∷ 235 ∷ 234 ∷ 237 ∷ 236 ∷ 239 ∷ 238 ∷ 225 ∷ 224 ∷ 227 ∷ 226 ∷ 229 ∷ 228 ∷ 231 ∷ 230 ∷ 249 ∷ 248 ∷ 251 ∷ 250 ∷ 253 ∷ 252 ∷ 255 ∷ 254 ∷ 241 ∷ 240 ∷ 243 ∷ 242 ∷ 245 ∷ 244 ∷ 247 ∷ 246 ∷ 137 ∷ 136 ∷ 139 ∷ [])) (short_tag 83)) ∷ []) (Say.Drained 4)
    ∷ answered (Do.Part 1 0 32 25 (line_of (replicate 25 26 ++ replicate 39 0))) Say.Ok
    ∷ answered (Do.Post 0 1 (filled_line 141)) Say.Ok
    ∷ answered (Do.Post 0 0 (filled_line 22)) Say.Ok
    ∷ answered Do.Turn Say.Idle
    ∷ answered Do.On Say.Already
    ∷ answered_with (Do.Fence 0) ((Seal 0 (ctr 0 1) (line_of (range_with_len 1 55 ++ 225 ∷ range_with_len 57 8)) (short_tag 136)) ∷ (Seal 0 (ctr 0 2) (line_of (239 ∷ 238 ∷ 233 ∷ 232 ∷ 235 ∷ 234 ∷ 229 ∷ 228 ∷ 231 ∷ 230 ∷ 225 ∷ 224 ∷ 227 ∷ 226 ∷ 253 ∷ 252 ∷ 255 ∷ 254 ∷ 249 ∷ 248 ∷ 251 ∷ 250 ∷ 245 ∷ 244 ∷ 247 ∷ 246 ∷ 241 ∷ 240 ∷ 243 ∷ 242 ∷ 205 ∷ 204 ∷ 207 ∷ 206 ∷ 201 ∷ 200 ∷ 203 ∷ 202 ∷ 197 ∷ 196 ∷ 199 ∷ 198 ∷ 193 ∷ 192 ∷ 195 ∷ 194 ∷ 221 ∷ 220 ∷ 223 ∷ 222 ∷ 217 ∷ 216 ∷ 219 ∷ 218 ∷ 213 ∷ 212 ∷ 215 ∷ 214 ∷ 209 ∷ 208 ∷ 211 ∷ 210 ∷ 173 ∷ 172 ∷ [])) (short_tag 18)) ∷ (Seal 1 (ctr 0 3) (line_of (137 ∷ 136 ∷ 139 ∷ 138 ∷ 133 ∷ 132 ∷ 135 ∷ 134 ∷ 129 ∷ 128 ∷ 131 ∷ 130 ∷ 157 ∷ 156 ∷ 159 ∷ 158 ∷ 153 ∷ 152 ∷ 155 ∷ 154 ∷ 149 ∷ 148 ∷ 151 ∷ 150 ∷ 145 ∷ 144 ∷ 147 ∷ 146 ∷ 173 ∷ 172 ∷ 175 ∷ 174 ∷ 169 ∷ 168 ∷ 171 ∷ 170 ∷ 165 ∷ 164 ∷ 167 ∷ 166 ∷ 161 ∷ 160 ∷ 163 ∷ 162 ∷ 189 ∷ 188 ∷ 191 ∷ 190 ∷ 185 ∷ 184 ∷ 187 ∷ 186 ∷ 181 ∷ 180 ∷ 183 ∷ 182 ∷ 177 ∷ 176 ∷ 179 ∷ 178 ∷ 205 ∷ 204 ∷ 207 ∷ 206 ∷ [])) (short_tag 18)) ∷ (Seal 0 (ctr 0 3) (line_of (21 ∷ 18 ∷ 19 ∷ 16 ∷ 17 ∷ 30 ∷ 31 ∷ 28 ∷ 29 ∷ 26 ∷ 27 ∷ 24 ∷ 25 ∷ 6 ∷ 7 ∷ 4 ∷ 5 ∷ 2 ∷ 3 ∷ 0 ∷ 1 ∷ 14 ∷ 15 ∷ 12 ∷ 13 ∷ 10 ∷ 11 ∷ 8 ∷ 9 ∷ 54 ∷ 55 ∷ 52 ∷ 53 ∷ 50 ∷ 51 ∷ 48 ∷ 49 ∷ 62 ∷ 63 ∷ 60 ∷ 61 ∷ 58 ∷ 59 ∷ 56 ∷ 57 ∷ 38 ∷ 39 ∷ 36 ∷ 37 ∷ 34 ∷ 35 ∷ 32 ∷ 33 ∷ 46 ∷ 47 ∷ 44 ∷ 45 ∷ 42 ∷ 43 ∷ 40 ∷ 41 ∷ 86 ∷ 87 ∷ 84 ∷ [])) (short_tag 83)) ∷ []) (Say.Fenced 4 16)
    ∷ answered (Do.Post 0 0 (filled_line 215)) Say.Ok
    ∷ answered (Do.Poke 325 (filled_line 222)) Say.Ok
    ∷ answered (Do.Post 1 0 (filled_line 72)) Say.Ok
    ∷ answered Do.Turn Say.Idle
    ∷ answered (Do.Post 0 1 (filled_line 155)) Say.Ok
    ∷ answered (Do.Post 0 0 (filled_line 80)) Say.Ok
    ∷ answered (Do.Cut 10) Say.Ok
    ∷ answered_with (Do.Drain 0) ((Seal 0 (ctr 0 4) (line_of (211 ∷ 210 ∷ 209 ∷ 208 ∷ 223 ∷ 222 ∷ 221 ∷ 220 ∷ 219 ∷ 218 ∷ 217 ∷ 216 ∷ 199 ∷ 198 ∷ 197 ∷ 196 ∷ 195 ∷ 194 ∷ 193 ∷ 192 ∷ 207 ∷ 206 ∷ 205 ∷ 204 ∷ 203 ∷ 202 ∷ 201 ∷ 200 ∷ 247 ∷ 246 ∷ 245 ∷ 244 ∷ 243 ∷ 242 ∷ 241 ∷ 240 ∷ 255 ∷ 254 ∷ 253 ∷ 252 ∷ 251 ∷ 250 ∷ 249 ∷ 248 ∷ 231 ∷ 230 ∷ 229 ∷ 228 ∷ 227 ∷ 226 ∷ 225 ∷ 224 ∷ 239 ∷ 238 ∷ 237 ∷ 236 ∷ 235 ∷ 234 ∷ 233 ∷ 232 ∷ 151 ∷ 150 ∷ 149 ∷ 148 ∷ [])) (short_tag 20)) ∷ []) (Say.Drained 4)
    ∷ answered (Do.Post 1 1 (filled_line 111)) Say.Ok
    ∷ answered (Do.Post 1 0 (filled_line 192)) Say.Ok
    ∷ answered (Do.Move 48 325) Say.Ok
    ∷ answered (Do.Read 1 0) (Say.Got (filled_line 192) 0)
    ∷ answered_with (Do.Fence 0) ((Seal 1 (ctr 0 4) (line_of (158 ∷ 157 ∷ 156 ∷ 147 ∷ 146 ∷ 145 ∷ 144 ∷ 151 ∷ 150 ∷ 149 ∷ 148 ∷ 139 ∷ 138 ∷ 137 ∷ 136 ∷ 143 ∷ 142 ∷ 141 ∷ 140 ∷ 131 ∷ 130 ∷ 129 ∷ 128 ∷ 135 ∷ 134 ∷ 133 ∷ 132 ∷ 187 ∷ 186 ∷ 185 ∷ 184 ∷ 191 ∷ 190 ∷ 189 ∷ 188 ∷ 179 ∷ 178 ∷ 177 ∷ 176 ∷ 183 ∷ 182 ∷ 181 ∷ 180 ∷ 171 ∷ 170 ∷ 169 ∷ 168 ∷ 175 ∷ 174 ∷ 173 ∷ 172 ∷ 163 ∷ 162 ∷ 161 ∷ 160 ∷ 167 ∷ 166 ∷ 165 ∷ 164 ∷ 219 ∷ 218 ∷ 217 ∷ 216 ∷ 223 ∷ [])) (short_tag 85)) ∷ (Seal 0 (ctr 0 5) (line_of (range_with_len 85 11 ++ range_with_len 64 16 ++ range_with_len 112 16 ++ range_with_len 96 16 ++ range_with_len 16 5)) (short_tag 85)) ∷ []) (Say.CutKept (Some 1) 6)
    ∷ answered (Do.Post 0 1 (filled_line 11)) Say.Off
    ∷ answered Do.On (Say.WrongRoot (short_tag 31) (short_tag 5) 3)
    ∷ answered Do.On (Say.WrongRoot (short_tag 31) (short_tag 5) 0)
    ∷ answered Do.On (Say.WrongRoot (short_tag 31) (short_tag 5) 0)
    ∷ answered Do.On (Say.WrongRoot (short_tag 31) (short_tag 5) 0)
    ∷ answered Do.On (Say.WrongRoot (short_tag 31) (short_tag 5) 0)
    ∷ answered Do.On (Say.WrongRoot (short_tag 31) (short_tag 5) 0)
    ∷ answered Do.On (Say.WrongRoot (short_tag 31) (short_tag 5) 0)
    ∷ answered (Do.Post 0 1 (filled_line 232)) Say.Off
    ∷ answered Do.On (Say.WrongRoot (short_tag 31) (short_tag 5) 0)
    ∷ answered Do.On (Say.WrongRoot (short_tag 31) (short_tag 5) 0)
    ∷ answered Do.On (Say.WrongRoot (short_tag 31) (short_tag 5) 0)
    ∷ answered Do.On (Say.WrongRoot (short_tag 31) (short_tag 5) 0)
    ∷ answered Do.On (Say.WrongRoot (short_tag 31) (short_tag 5) 0)
    ∷ answered Do.On (Say.WrongRoot (short_tag 31) (short_tag 5) 0)
    ∷ answered Do.On (Say.WrongRoot (short_tag 31) (short_tag 5) 0)
    ∷ answered (Do.Post 1 1 (filled_line 33)) Say.Off
    ∷ answered Do.On (Say.WrongRoot (short_tag 31) (short_tag 5) 0)
    ∷ answered (Do.Read 1 0) Say.Off
    ∷ answered Do.On (Say.WrongRoot (short_tag 31) (short_tag 5) 0)
    ∷ answered Do.On (Say.WrongRoot (short_tag 31) (short_tag 5) 0)
    ∷ answered (Do.Read 0 0) Say.Off
    ∷ answered Do.On (Say.WrongRoot (short_tag 31) (short_tag 5) 0)
    ∷ answered Do.On (Say.WrongRoot (short_tag 31) (short_tag 5) 0)
    ∷ answered Do.On (Say.WrongRoot (short_tag 31) (short_tag 5) 0)
    ∷ answered Do.On (Say.WrongRoot (short_tag 31) (short_tag 5) 0)
    ∷ answered Do.On (Say.WrongRoot (short_tag 31) (short_tag 5) 0)
    ∷ answered Do.On (Say.WrongRoot (short_tag 31) (short_tag 5) 0)
    ∷ answered Do.On (Say.WrongRoot (short_tag 31) (short_tag 5) 0)
    ∷ answered Do.On (Say.WrongRoot (short_tag 31) (short_tag 5) 0)
    ∷ answered Do.On (Say.WrongRoot (short_tag 31) (short_tag 5) 0)
    ∷ answered Do.On (Say.WrongRoot (short_tag 31) (short_tag 5) 0)
    ∷ answered (Do.Drain 0) Say.Off
    ∷ answered Do.On (Say.WrongRoot (short_tag 31) (short_tag 5) 0)
    ∷ answered Do.On (Say.WrongRoot (short_tag 31) (short_tag 5) 0)
    ∷ answered Do.On (Say.WrongRoot (short_tag 31) (short_tag 5) 0)
    ∷ answered Do.On (Say.WrongRoot (short_tag 31) (short_tag 5) 0)
    ∷ answered Do.On (Say.WrongRoot (short_tag 31) (short_tag 5) 0)
    ∷ answered Do.On (Say.WrongRoot (short_tag 31) (short_tag 5) 0)
    ∷ answered (Do.Drain 0) Say.Off
    ∷ answered (Do.Drain 0) Say.Off
    ∷ answered Do.Snap Say.Ok
    ∷ answered Do.On (Say.WrongRoot (short_tag 31) (short_tag 5) 0)
    ∷ answered Do.On (Say.WrongRoot (short_tag 31) (short_tag 5) 0)
    ∷ answered Do.On (Say.WrongRoot (short_tag 31) (short_tag 5) 0)
    ∷ answered Do.On (Say.WrongRoot (short_tag 31) (short_tag 5) 0)
    ∷ answered Do.On (Say.WrongRoot (short_tag 31) (short_tag 5) 0)
    ∷ answered Do.On (Say.WrongRoot (short_tag 31) (short_tag 5) 0)
    ∷ answered (Do.Post 1 1 (filled_line 13)) Say.Off
    ∷ answered Do.On (Say.WrongRoot (short_tag 31) (short_tag 5) 0)
    ∷ []

-- With tampering, 80 commands
abbrev pub tampered_five_setup : Setup
tampered_five_setup =
    record {
      shape = record { levels = 1; sets = 1; ways = 1; loss = 1; major = 0; persist = 0; shadow = true; durable = false; combines = false };
      formulas = weak;
    }

abbrev pub tampered_five : Trace
tampered_five =
    answered (Do.Post 0 1 (filled_line 248)) Say.Ok
    ∷ answered (Do.Read 1 1) (Say.Got (filled_line 0) 0)
    ∷ answered (Do.Post 1 1 (filled_line 253)) Say.Ok
    ∷ answered (Do.Post 1 0 (filled_line 159)) Say.Ok
    ∷ answered (Do.Post 1 1 (filled_line 98)) Say.Ok
    ∷ answered (Do.Read 0 0) (Say.Got (filled_line 0) 0)
    ∷ answered (Do.Post 0 1 (filled_line 31)) Say.Ok
    ∷ answered (Do.Post 0 0 (filled_line 201)) Say.Ok
    ∷ answered_with (Do.Drain 1) ((Seal 1 (ctr 0 1) (line_of (255 ∷ 254 ∷ 249 ∷ 248 ∷ 251 ∷ 250 ∷ 245 ∷ 244 ∷ 247 ∷ 246 ∷ 241 ∷ 240 ∷ 243 ∷ 242 ∷ 237 ∷ 236 ∷ 239 ∷ 238 ∷ 233 ∷ 232 ∷ 235 ∷ 234 ∷ 229 ∷ 228 ∷ 231 ∷ 230 ∷ 225 ∷ 224 ∷ 227 ∷ 226 ∷ 221 ∷ 220 ∷ 223 ∷ 222 ∷ 217 ∷ 216 ∷ 219 ∷ 218 ∷ 213 ∷ 212 ∷ 215 ∷ 214 ∷ 209 ∷ 208 ∷ 211 ∷ 210 ∷ 205 ∷ 204 ∷ 207 ∷ 206 ∷ 201 ∷ 200 ∷ 203 ∷ 202 ∷ 197 ∷ 196 ∷ 199 ∷ 198 ∷ 193 ∷ 192 ∷ 195 ∷ 194 ∷ 189 ∷ 188 ∷ [])) (short_tag 16)) ∷ []) (Say.Drained 7)
    ∷ answered (Do.Read 1 0) (Say.Got (filled_line 159) 0)
    ∷ answered Do.On Say.Already
    ∷ answered Do.Turn Say.Idle
    ∷ answered Do.Turn Say.Idle
    ∷ answered (Do.Post 0 1 (filled_line 154)) Say.Ok
    ∷ answered (Do.Post 0 0 (filled_line 148)) Say.Ok
    ∷ answered Do.Snap Say.Ok
    ∷ answered Do.Flush (Say.Flushed 0 1)
    ∷ answered (Do.Part 0 1 7 7 (line_of (replicate 7 42 ++ replicate 57 0))) Say.Ok
    ∷ answered_with (Do.Drain 1) ((Seal 0 (ctr 0 1) (line_of (158 ∷ 157 ∷ 156 ∷ 155 ∷ 154 ∷ 153 ∷ 152 ∷ 151 ∷ 150 ∷ 149 ∷ 148 ∷ 147 ∷ 146 ∷ 145 ∷ 144 ∷ 143 ∷ 142 ∷ 141 ∷ 140 ∷ 139 ∷ 138 ∷ 137 ∷ 136 ∷ 135 ∷ 134 ∷ 133 ∷ 132 ∷ 131 ∷ 130 ∷ 129 ∷ 128 ∷ 191 ∷ 190 ∷ 189 ∷ 188 ∷ 187 ∷ 186 ∷ 185 ∷ 184 ∷ 183 ∷ 182 ∷ 181 ∷ 180 ∷ 179 ∷ 178 ∷ 177 ∷ 176 ∷ 175 ∷ 174 ∷ 173 ∷ 172 ∷ 171 ∷ 170 ∷ 169 ∷ 168 ∷ 167 ∷ 166 ∷ 165 ∷ 164 ∷ 163 ∷ 162 ∷ 161 ∷ 160 ∷ 223 ∷ [])) (short_tag 81)) ∷ []) (Say.Drained 5)
    ∷ answered Do.On Say.Already
    ∷ answered_with (Do.Drain 0) ((Seal 1 (ctr 0 2) (line_of (range_with_len 251 5 ++ range_with_len 240 8 ++ range_with_len 232 8 ++ range_with_len 224 8 ++ range_with_len 216 8 ++ range_with_len 208 8 ++ range_with_len 200 8 ++ range_with_len 192 8 ++ 184 ∷ 185 ∷ 186 ∷ [])) (short_tag 83)) ∷ []) (Say.Drained 5)
    ∷ answered_with (Do.Drain 0) ((Seal 1 (ctr 0 3) (line_of (27 ∷ 26 ∷ 25 ∷ 24 ∷ 23 ∷ 22 ∷ 21 ∷ 20 ∷ 19 ∷ 18 ∷ 17 ∷ 16 ∷ 15 ∷ 14 ∷ 13 ∷ 12 ∷ 11 ∷ 10 ∷ 9 ∷ 8 ∷ 7 ∷ 6 ∷ 5 ∷ 4 ∷ 3 ∷ 2 ∷ 1 ∷ 0 ∷ 63 ∷ 62 ∷ 61 ∷ 60 ∷ 59 ∷ 58 ∷ 57 ∷ 56 ∷ 55 ∷ 54 ∷ 53 ∷ 52 ∷ 51 ∷ 50 ∷ 49 ∷ 48 ∷ 47 ∷ 46 ∷ 45 ∷ 44 ∷ 43 ∷ 42 ∷ 41 ∷ 40 ∷ 39 ∷ 38 ∷ 37 ∷ 36 ∷ 35 ∷ 34 ∷ 33 ∷ 32 ∷ 95 ∷ 94 ∷ 93 ∷ 92 ∷ [])) (short_tag 18)) ∷ []) (Say.Drained 5)
    ∷ answered (Do.Back 256) Say.Ok
    ∷ answered (Do.Post 0 1 (filled_line 192)) Say.Ok
    ∷ answered (Do.Read 1 0) (Say.Refused None (Place.Line 0) 0)
    ∷ answered_with (Do.Fence 1) ((Seal 1 (ctr 0 4) (line_of (103 ∷ 100 ∷ 101 ∷ 106 ∷ 107 ∷ 104 ∷ 105 ∷ 110 ∷ 111 ∷ 108 ∷ 109 ∷ 114 ∷ 115 ∷ 112 ∷ 113 ∷ 118 ∷ 119 ∷ 116 ∷ 117 ∷ 122 ∷ 123 ∷ 120 ∷ 121 ∷ 126 ∷ 127 ∷ 124 ∷ 125 ∷ 66 ∷ 67 ∷ 64 ∷ 65 ∷ 70 ∷ 71 ∷ 68 ∷ 69 ∷ 74 ∷ 75 ∷ 72 ∷ 73 ∷ 78 ∷ 79 ∷ 76 ∷ 77 ∷ 82 ∷ 83 ∷ 80 ∷ 81 ∷ 86 ∷ 87 ∷ 84 ∷ 85 ∷ 90 ∷ 91 ∷ 88 ∷ 89 ∷ 94 ∷ 95 ∷ 92 ∷ 93 ∷ 34 ∷ 35 ∷ 32 ∷ 33 ∷ 38 ∷ [])) (short_tag 85)) ∷ []) (Say.Fenced 1 5)
    ∷ answered (Do.Read 0 0) (Say.Got (filled_line 148) 0)
    ∷ answered_with (Do.Drain 0) ((Seal 0 (ctr 0 2) (line_of (203 ∷ 202 ∷ 205 ∷ 204 ∷ 207 ∷ 206 ∷ 193 ∷ 192 ∷ 195 ∷ 194 ∷ 197 ∷ 196 ∷ 199 ∷ 198 ∷ 217 ∷ 216 ∷ 219 ∷ 218 ∷ 221 ∷ 220 ∷ 223 ∷ 222 ∷ 209 ∷ 208 ∷ 211 ∷ 210 ∷ 213 ∷ 212 ∷ 215 ∷ 214 ∷ 233 ∷ 232 ∷ 235 ∷ 234 ∷ 237 ∷ 236 ∷ 239 ∷ 238 ∷ 225 ∷ 224 ∷ 227 ∷ 226 ∷ 229 ∷ 228 ∷ 231 ∷ 230 ∷ 249 ∷ 248 ∷ 251 ∷ 250 ∷ 253 ∷ 252 ∷ 255 ∷ 254 ∷ 241 ∷ 240 ∷ 243 ∷ 242 ∷ 245 ∷ 244 ∷ 247 ∷ 246 ∷ 137 ∷ 136 ∷ [])) (short_tag 18)) ∷ []) (Say.Drained 5)
    ∷ answered_with (Do.Drain 0) ((Seal 1 (ctr 0 5) (line_of (156 ∷ 157 ∷ 146 ∷ 147 ∷ 144 ∷ 145 ∷ 150 ∷ 151 ∷ 148 ∷ 149 ∷ 138 ∷ 139 ∷ 136 ∷ 137 ∷ 142 ∷ 143 ∷ 140 ∷ 141 ∷ 130 ∷ 131 ∷ 128 ∷ 129 ∷ 134 ∷ 135 ∷ 132 ∷ 133 ∷ 186 ∷ 187 ∷ 184 ∷ 185 ∷ 190 ∷ 191 ∷ 188 ∷ 189 ∷ 178 ∷ 179 ∷ 176 ∷ 177 ∷ 182 ∷ 183 ∷ 180 ∷ 181 ∷ 170 ∷ 171 ∷ 168 ∷ 169 ∷ 174 ∷ 175 ∷ 172 ∷ 173 ∷ 162 ∷ 163 ∷ 160 ∷ 161 ∷ 166 ∷ 167 ∷ 164 ∷ 165 ∷ 218 ∷ 219 ∷ 216 ∷ 217 ∷ 222 ∷ 223 ∷ [])) (short_tag 20)) ∷ []) (Say.Drained 5)
    ∷ answered (Do.Post 0 0 (filled_line 38)) Say.Ok
    ∷ answered (Do.Read 1 1) (Say.Got (filled_line 154) 0)
    ∷ answered (Do.Post 1 0 (filled_line 240)) Say.Ok
    ∷ answered_with (Do.Fence 0) ((Seal 0 (ctr 0 3) (line_of (151 ∷ range_with_len 144 4 ++ range_with_len 156 4 ++ range_with_len 152 4 ++ range_with_len 132 4 ++ range_with_len 128 4 ++ range_with_len 140 4 ++ range_with_len 136 4 ++ range_with_len 180 4 ++ range_with_len 176 4 ++ range_with_len 188 4 ++ range_with_len 184 4 ++ range_with_len 164 4 ++ range_with_len 160 4 ++ range_with_len 172 4 ++ range_with_len 168 4 ++ 212 ∷ 213 ∷ 214 ∷ [])) (short_tag 83)) ∷ (Seal 1 (ctr 0 6) (line_of (157 ∷ 146 ∷ 147 ∷ 144 ∷ 145 ∷ 150 ∷ 151 ∷ 36 ∷ 37 ∷ 58 ∷ 59 ∷ 56 ∷ 57 ∷ 62 ∷ 143 ∷ 140 ∷ 141 ∷ 130 ∷ 131 ∷ 128 ∷ 129 ∷ 134 ∷ 135 ∷ 132 ∷ 133 ∷ 186 ∷ 187 ∷ 184 ∷ 185 ∷ 190 ∷ 191 ∷ 188 ∷ 189 ∷ 178 ∷ 179 ∷ 176 ∷ 177 ∷ 182 ∷ 183 ∷ 180 ∷ 181 ∷ 170 ∷ 171 ∷ 168 ∷ 169 ∷ 174 ∷ 175 ∷ 172 ∷ 173 ∷ 162 ∷ 163 ∷ 160 ∷ 161 ∷ 166 ∷ 167 ∷ 164 ∷ 165 ∷ 218 ∷ 219 ∷ 216 ∷ 217 ∷ 222 ∷ 223 ∷ 220 ∷ [])) (short_tag 231)) ∷ (Seal 1 (ctr 0 7) (line_of (range_with_len 200 56 ++ range_with_len 128 8)) (short_tag 22)) ∷ (Seal 0 (ctr 0 4) (line_of (34 ∷ 35 ∷ 32 ∷ 33 ∷ 46 ∷ 47 ∷ 44 ∷ 45 ∷ 42 ∷ 43 ∷ 40 ∷ 41 ∷ 54 ∷ 55 ∷ 52 ∷ 53 ∷ 50 ∷ 51 ∷ 48 ∷ 49 ∷ 62 ∷ 63 ∷ 60 ∷ 61 ∷ 58 ∷ 59 ∷ 56 ∷ 57 ∷ 6 ∷ 7 ∷ 4 ∷ 5 ∷ 2 ∷ 3 ∷ 0 ∷ 1 ∷ 14 ∷ 15 ∷ 12 ∷ 13 ∷ 10 ∷ 11 ∷ 8 ∷ 9 ∷ 22 ∷ 23 ∷ 20 ∷ 21 ∷ 18 ∷ 19 ∷ 16 ∷ 17 ∷ 30 ∷ 31 ∷ 28 ∷ 29 ∷ 26 ∷ 27 ∷ 24 ∷ 25 ∷ 102 ∷ 103 ∷ 100 ∷ 101 ∷ [])) (short_tag 20)) ∷ []) (Say.Fenced 4 20)
    ∷ answered Do.Off Say.Ok
    ∷ answered Do.On (Say.Recovered 64 5 3)
    ∷ answered (Do.Read 0 0) (Say.Got (filled_line 38) 0)
    ∷ answered (Do.Post 0 1 (filled_line 19)) Say.Ok
    ∷ answered Do.On Say.Already
    ∷ answered (Do.Post 1 1 (filled_line 210)) Say.Ok
    ∷ answered (Do.Cut 10) Say.Ok
    ∷ answered_with (Do.Drain 0) ((Seal 1 (ctr 0 8) (line_of (26 ∷ 25 ∷ 24 ∷ 31 ∷ 30 ∷ 29 ∷ 28 ∷ 3 ∷ 2 ∷ 1 ∷ 0 ∷ 7 ∷ 6 ∷ 5 ∷ 4 ∷ 11 ∷ 10 ∷ 9 ∷ 8 ∷ 15 ∷ 14 ∷ 13 ∷ 12 ∷ 51 ∷ 50 ∷ 49 ∷ 48 ∷ 55 ∷ 54 ∷ 53 ∷ 52 ∷ 59 ∷ 58 ∷ 57 ∷ 56 ∷ 63 ∷ 62 ∷ 61 ∷ 60 ∷ 35 ∷ 34 ∷ 33 ∷ 32 ∷ 39 ∷ 38 ∷ 37 ∷ 36 ∷ 43 ∷ 42 ∷ 41 ∷ 40 ∷ 47 ∷ 46 ∷ 45 ∷ 44 ∷ 83 ∷ 82 ∷ 81 ∷ 80 ∷ 87 ∷ 86 ∷ 85 ∷ 84 ∷ 91 ∷ [])) (short_tag 89)) ∷ []) (Say.Drained 7)
    ∷ answered (Do.Part 0 1 53 3 (line_of (169 ∷ 169 ∷ 169 ∷ replicate 61 0))) Say.Ok
    ∷ answered (Do.Post 0 0 (filled_line 204)) Say.Ok
    ∷ answered (Do.Post 1 1 (filled_line 182)) Say.Ok
    ∷ answered (Do.Post 0 1 (filled_line 223)) Say.Ok
    ∷ answered (Do.Part 1 1 7 31 (line_of (replicate 31 62 ++ replicate 33 0))) Say.Ok
    ∷ answered (Do.Post 0 1 (filled_line 231)) Say.Ok
    ∷ answered (Do.Flip 326 97) Say.Ok
    ∷ answered_with (Do.Drain 0) ((Seal 1 (ctr 0 9) (line_of (25 ∷ 24 ∷ 31 ∷ 30 ∷ 29 ∷ 28 ∷ 3 ∷ 2 ∷ 1 ∷ 0 ∷ 7 ∷ 6 ∷ 5 ∷ 4 ∷ 11 ∷ 10 ∷ 9 ∷ 8 ∷ 15 ∷ 14 ∷ 13 ∷ 12 ∷ 51 ∷ 50 ∷ 49 ∷ 48 ∷ 55 ∷ 54 ∷ 53 ∷ 52 ∷ 59 ∷ 58 ∷ 57 ∷ 56 ∷ 63 ∷ 62 ∷ 61 ∷ 60 ∷ 35 ∷ 34 ∷ 33 ∷ 32 ∷ 39 ∷ 38 ∷ 37 ∷ 36 ∷ 43 ∷ 42 ∷ 41 ∷ 40 ∷ 47 ∷ 46 ∷ 45 ∷ 150 ∷ 233 ∷ 232 ∷ 81 ∷ 80 ∷ 87 ∷ 86 ∷ 85 ∷ 84 ∷ 91 ∷ 90 ∷ [])) (short_tag 162)) ∷ []) (Say.CutKept None 3)
    ∷ answered Do.On (Say.Recovered 64 5 7)
    ∷ answered (Do.Post 1 1 (filled_line 255)) Say.Ok
    ∷ answered (Do.Drain 0) Say.Empty
    ∷ answered Do.Turn Say.Idle
    ∷ answered (Do.Post 1 1 (filled_line 90)) Say.Ok
    ∷ answered (Do.Post 0 1 (filled_line 225)) Say.Ok
    ∷ answered Do.Off Say.Ok
    ∷ answered (Do.Read 0 0) Say.Off
    ∷ answered (Do.Cut 5) Say.Ok
    ∷ answered Do.On (Say.Recovered 0 1 0)
    ∷ answered (Do.Flip 325 286) Say.Ok
    ∷ answered (Do.Read 0 0) (Say.Got (filled_line 38) 0)
    ∷ answered (Do.Post 1 1 (filled_line 160)) Say.Ok
    ∷ answered (Do.Read 0 1) (Say.Got (line_of (replicate 53 19 ++ 169 ∷ 169 ∷ 169 ∷ replicate 8 19)) 0)
    ∷ answered (Do.Post 0 1 (filled_line 205)) Say.Ok
    ∷ answered (Do.Post 0 0 (filled_line 217)) Say.Ok
    ∷ answered Do.Turn Say.Idle
    ∷ answered (Do.Peek 274) (Say.Raw (line_of (replicate 15 0 ++ 88 ∷ replicate 15 0 ++ 153 ∷ replicate 15 0 ++ 90 ∷ replicate 15 0 ++ 155 ∷ [])))
    ∷ answered (Do.Post 1 0 (filled_line 126)) Say.Ok
    ∷ answered (Do.Part 1 1 39 19 (line_of (replicate 19 70 ++ replicate 45 0))) Say.Ok
    ∷ answered (Do.Post 0 0 (filled_line 187)) Say.Ok
    ∷ answered_with (Do.Drain 0) ((Seal 1 (ctr 0 10) (line_of (198 ∷ 193 ∷ 192 ∷ 195 ∷ 194 ∷ 221 ∷ 220 ∷ 223 ∷ 222 ∷ 217 ∷ 216 ∷ 219 ∷ 218 ∷ 213 ∷ 212 ∷ 215 ∷ 214 ∷ 209 ∷ 208 ∷ 211 ∷ 210 ∷ 237 ∷ 236 ∷ 239 ∷ 238 ∷ 233 ∷ 232 ∷ 235 ∷ 234 ∷ 229 ∷ 228 ∷ 231 ∷ 230 ∷ 225 ∷ 224 ∷ 227 ∷ 226 ∷ 253 ∷ 252 ∷ 255 ∷ 254 ∷ 249 ∷ 248 ∷ 251 ∷ 250 ∷ 245 ∷ 244 ∷ 247 ∷ 246 ∷ 241 ∷ 240 ∷ 243 ∷ 242 ∷ 141 ∷ 140 ∷ 143 ∷ 142 ∷ 137 ∷ 136 ∷ 139 ∷ 138 ∷ 133 ∷ 132 ∷ 135 ∷ [])) (short_tag 91)) ∷ []) (Say.CutKept None 5)
    ∷ answered (Do.Drain 0) Say.Off
    ∷ answered (Do.Peek 245) (Say.Raw (line_of (range_with_len 245 11 ++ range_with_len 0 53)))
    ∷ answered (Do.Post 0 1 (filled_line 61)) Say.Off
    ∷ answered Do.On (Say.Recovered 64 5 7)
    ∷ answered (Do.Drain 0) Say.Empty
    ∷ answered (Do.Post 0 0 (filled_line 252)) Say.Ok
    ∷ answered (Do.Part 0 0 62 2 (line_of (235 ∷ 235 ∷ replicate 62 0))) Say.Ok
    ∷ answered (Do.Read 0 1) (Say.Got (filled_line 205) 0)
    ∷ answered (Do.Read 0 1) (Say.Got (filled_line 205) 0)
    ∷ []

-- With tampering, 318 commands: those before what is proved
abbrev pub tampered_pages_before : Trace
tampered_pages_before =
    answered (Do.Post 0 0 (filled_line 6)) Say.Ok
    ∷ answered_with (Do.Drain 0) ((Seal 0 (ctr 0 1) (line_of (7 ∷ 4 ∷ 5 ∷ 2 ∷ 3 ∷ 0 ∷ 1 ∷ 14 ∷ 15 ∷ 12 ∷ 13 ∷ 10 ∷ 11 ∷ 8 ∷ 9 ∷ 22 ∷ 23 ∷ 20 ∷ 21 ∷ 18 ∷ 19 ∷ 16 ∷ 17 ∷ 30 ∷ 31 ∷ 28 ∷ 29 ∷ 26 ∷ 27 ∷ 24 ∷ 25 ∷ 38 ∷ 39 ∷ 36 ∷ 37 ∷ 34 ∷ 35 ∷ 32 ∷ 33 ∷ 46 ∷ 47 ∷ 44 ∷ 45 ∷ 42 ∷ 43 ∷ 40 ∷ 41 ∷ 54 ∷ 55 ∷ 52 ∷ 53 ∷ 50 ∷ 51 ∷ 48 ∷ 49 ∷ 62 ∷ 63 ∷ 60 ∷ 61 ∷ 58 ∷ 59 ∷ 56 ∷ 57 ∷ 70 ∷ [])) (short_tag 81)) ∷ []) (Say.Drained 6)
    ∷ answered (Do.Post 0 0 (filled_line 240)) Say.Ok
    ∷ answered_with (Do.Drain 0) ((Seal 0 (ctr 0 2) (line_of (range_with_len 242 14 ++ range_with_len 224 16 ++ range_with_len 208 16 ++ range_with_len 192 16 ++ 176 ∷ 177 ∷ [])) (short_tag 18)) ∷ []) (Say.Drained 4)
    ∷ answered (Do.Post 0 0 (filled_line 57)) Say.Ok
    ∷ answered_with (Do.Drain 0) ((Seal 0 (ctr 0 3) (line_of (58 ∷ 61 ∷ 60 ∷ 63 ∷ 62 ∷ 49 ∷ 48 ∷ 51 ∷ 50 ∷ 53 ∷ 52 ∷ 55 ∷ 54 ∷ 41 ∷ 40 ∷ 43 ∷ 42 ∷ 45 ∷ 44 ∷ 47 ∷ 46 ∷ 33 ∷ 32 ∷ 35 ∷ 34 ∷ 37 ∷ 36 ∷ 39 ∷ 38 ∷ 25 ∷ 24 ∷ 27 ∷ 26 ∷ 29 ∷ 28 ∷ 31 ∷ 30 ∷ 17 ∷ 16 ∷ 19 ∷ 18 ∷ 21 ∷ 20 ∷ 23 ∷ 22 ∷ 9 ∷ 8 ∷ 11 ∷ 10 ∷ 13 ∷ 12 ∷ 15 ∷ 14 ∷ 1 ∷ 0 ∷ 3 ∷ 2 ∷ 5 ∷ 4 ∷ 7 ∷ 6 ∷ 121 ∷ 120 ∷ 123 ∷ [])) (short_tag 83)) ∷ []) (Say.Drained 4)
    ∷ answered (Do.Post 0 0 (filled_line 201)) Say.Ok
    ∷ answered_with (Do.Drain 0) ((Seal 0 (ctr 0 4) (line_of (205 ∷ 204 ∷ 207 ∷ 206 ∷ 193 ∷ 192 ∷ 195 ∷ 194 ∷ 197 ∷ 196 ∷ 199 ∷ 198 ∷ 217 ∷ 216 ∷ 219 ∷ 218 ∷ 221 ∷ 220 ∷ 223 ∷ 222 ∷ 209 ∷ 208 ∷ 211 ∷ 210 ∷ 213 ∷ 212 ∷ 215 ∷ 214 ∷ 233 ∷ 232 ∷ 235 ∷ 234 ∷ 237 ∷ 236 ∷ 239 ∷ 238 ∷ 225 ∷ 224 ∷ 227 ∷ 226 ∷ 229 ∷ 228 ∷ 231 ∷ 230 ∷ 249 ∷ 248 ∷ 251 ∷ 250 ∷ 253 ∷ 252 ∷ 255 ∷ 254 ∷ 241 ∷ 240 ∷ 243 ∷ 242 ∷ 245 ∷ 244 ∷ 247 ∷ 246 ∷ 137 ∷ 136 ∷ 139 ∷ 138 ∷ [])) (short_tag 20)) ∷ []) (Say.Drained 5)
    ∷ answered (Do.Post 0 0 (filled_line 72)) Say.Ok
    ∷ answered_with (Do.Drain 0) ((Seal 0 (ctr 0 5) (line_of (77 ∷ 78 ∷ 79 ∷ range_with_len 64 8 ++ range_with_len 88 8 ++ range_with_len 80 8 ++ range_with_len 104 8 ++ range_with_len 96 8 ++ range_with_len 120 8 ++ range_with_len 112 8 ++ range_with_len 8 5)) (short_tag 85)) ∷ []) (Say.Drained 4)
    ∷ answered (Do.Post 0 0 (filled_line 22)) Say.Ok
    ∷ answered_with (Do.Drain 0) ((Seal 0 (ctr 0 6) (line_of (16 ∷ 17 ∷ 30 ∷ 31 ∷ 28 ∷ 29 ∷ 26 ∷ 27 ∷ 24 ∷ 25 ∷ 6 ∷ 7 ∷ 4 ∷ 5 ∷ 2 ∷ 3 ∷ 0 ∷ 1 ∷ 14 ∷ 15 ∷ 12 ∷ 13 ∷ 10 ∷ 11 ∷ 8 ∷ 9 ∷ 54 ∷ 55 ∷ 52 ∷ 53 ∷ 50 ∷ 51 ∷ 48 ∷ 49 ∷ 62 ∷ 63 ∷ 60 ∷ 61 ∷ 58 ∷ 59 ∷ 56 ∷ 57 ∷ 38 ∷ 39 ∷ 36 ∷ 37 ∷ 34 ∷ 35 ∷ 32 ∷ 33 ∷ 46 ∷ 47 ∷ 44 ∷ 45 ∷ 42 ∷ 43 ∷ 40 ∷ 41 ∷ 86 ∷ 87 ∷ 84 ∷ 85 ∷ 82 ∷ 83 ∷ [])) (short_tag 22)) ∷ []) (Say.Drained 4)
    ∷ answered (Do.Post 0 0 (filled_line 71)) Say.Ok
    ∷ answered_with (Do.Drain 0) ((Seal 0 (ctr 0 7) (line_of (64 ∷ 79 ∷ 78 ∷ 77 ∷ 76 ∷ 75 ∷ 74 ∷ 73 ∷ 72 ∷ 87 ∷ 86 ∷ 85 ∷ 84 ∷ 83 ∷ 82 ∷ 81 ∷ 80 ∷ 95 ∷ 94 ∷ 93 ∷ 92 ∷ 91 ∷ 90 ∷ 89 ∷ 88 ∷ 103 ∷ 102 ∷ 101 ∷ 100 ∷ 99 ∷ 98 ∷ 97 ∷ 96 ∷ 111 ∷ 110 ∷ 109 ∷ 108 ∷ 107 ∷ 106 ∷ 105 ∷ 104 ∷ 119 ∷ 118 ∷ 117 ∷ 116 ∷ 115 ∷ 114 ∷ 113 ∷ 112 ∷ 127 ∷ 126 ∷ 125 ∷ 124 ∷ 123 ∷ 122 ∷ 121 ∷ 120 ∷ 7 ∷ 6 ∷ 5 ∷ 4 ∷ 3 ∷ 2 ∷ 1 ∷ [])) (short_tag 87)) ∷ []) (Say.Drained 4)
    ∷ answered (Do.Post 0 0 (filled_line 57)) Say.Ok
    ∷ answered_with (Do.Drain 0) ((Seal 0 (ctr 0 8) (line_of (49 ∷ 48 ∷ 51 ∷ 50 ∷ 53 ∷ 52 ∷ 55 ∷ 54 ∷ 41 ∷ 40 ∷ 43 ∷ 42 ∷ 45 ∷ 44 ∷ 47 ∷ 46 ∷ 33 ∷ 32 ∷ 35 ∷ 34 ∷ 37 ∷ 36 ∷ 39 ∷ 38 ∷ 25 ∷ 24 ∷ 27 ∷ 26 ∷ 29 ∷ 28 ∷ 31 ∷ 30 ∷ 17 ∷ 16 ∷ 19 ∷ 18 ∷ 21 ∷ 20 ∷ 23 ∷ 22 ∷ 9 ∷ 8 ∷ 11 ∷ 10 ∷ 13 ∷ 12 ∷ 15 ∷ 14 ∷ 1 ∷ 0 ∷ 3 ∷ 2 ∷ 5 ∷ 4 ∷ 7 ∷ 6 ∷ 121 ∷ 120 ∷ 123 ∷ 122 ∷ 125 ∷ 124 ∷ 127 ∷ 126 ∷ [])) (short_tag 24)) ∷ []) (Say.Drained 5)
    ∷ answered (Do.Post 0 0 (filled_line 118)) Say.Ok
    ∷ answered_with (Do.Drain 0) ((Seal 0 (ctr 0 9) (line_of (127 ∷ 124 ∷ 125 ∷ 122 ∷ 123 ∷ 120 ∷ 121 ∷ 102 ∷ 103 ∷ 100 ∷ 101 ∷ 98 ∷ 99 ∷ 96 ∷ 97 ∷ 110 ∷ 111 ∷ 108 ∷ 109 ∷ 106 ∷ 107 ∷ 104 ∷ 105 ∷ 86 ∷ 87 ∷ 84 ∷ 85 ∷ 82 ∷ 83 ∷ 80 ∷ 81 ∷ 94 ∷ 95 ∷ 92 ∷ 93 ∷ 90 ∷ 91 ∷ 88 ∷ 89 ∷ 70 ∷ 71 ∷ 68 ∷ 69 ∷ 66 ∷ 67 ∷ 64 ∷ 65 ∷ 78 ∷ 79 ∷ 76 ∷ 77 ∷ 74 ∷ 75 ∷ 72 ∷ 73 ∷ 54 ∷ 55 ∷ 52 ∷ 53 ∷ 50 ∷ 51 ∷ 48 ∷ 49 ∷ 62 ∷ [])) (short_tag 89)) ∷ []) (Say.Drained 4)
    ∷ answered (Do.Post 0 0 (filled_line 71)) Say.Ok
    ∷ answered_with (Do.Drain 0) ((Seal 0 (ctr 0 10) (line_of (77 ∷ 76 ∷ 75 ∷ 74 ∷ 73 ∷ 72 ∷ 87 ∷ 86 ∷ 85 ∷ 84 ∷ 83 ∷ 82 ∷ 81 ∷ 80 ∷ 95 ∷ 94 ∷ 93 ∷ 92 ∷ 91 ∷ 90 ∷ 89 ∷ 88 ∷ 103 ∷ 102 ∷ 101 ∷ 100 ∷ 99 ∷ 98 ∷ 97 ∷ 96 ∷ 111 ∷ 110 ∷ 109 ∷ 108 ∷ 107 ∷ 106 ∷ 105 ∷ 104 ∷ 119 ∷ 118 ∷ 117 ∷ 116 ∷ 115 ∷ 114 ∷ 113 ∷ 112 ∷ 127 ∷ 126 ∷ 125 ∷ 124 ∷ 123 ∷ 122 ∷ 121 ∷ 120 ∷ 7 ∷ 6 ∷ 5 ∷ 4 ∷ 3 ∷ 2 ∷ 1 ∷ 0 ∷ 15 ∷ 14 ∷ [])) (short_tag 26)) ∷ []) (Say.Drained 4)
    ∷ answered (Do.Post 0 0 (filled_line 75)) Say.Ok
    ∷ answered_with (Do.Drain 0) ((Seal 0 (ctr 0 11) (line_of (64 ∷ 71 ∷ 70 ∷ 69 ∷ 68 ∷ 91 ∷ 90 ∷ 89 ∷ 88 ∷ 95 ∷ 94 ∷ 93 ∷ 92 ∷ 83 ∷ 82 ∷ 81 ∷ 80 ∷ 87 ∷ 86 ∷ 85 ∷ 84 ∷ 107 ∷ 106 ∷ 105 ∷ 104 ∷ 111 ∷ 110 ∷ 109 ∷ 108 ∷ 99 ∷ 98 ∷ 97 ∷ 96 ∷ 103 ∷ 102 ∷ 101 ∷ 100 ∷ 123 ∷ 122 ∷ 121 ∷ 120 ∷ 127 ∷ 126 ∷ 125 ∷ 124 ∷ 115 ∷ 114 ∷ 113 ∷ 112 ∷ 119 ∷ 118 ∷ 117 ∷ 116 ∷ 11 ∷ 10 ∷ 9 ∷ 8 ∷ 15 ∷ 14 ∷ 13 ∷ 12 ∷ 3 ∷ 2 ∷ 1 ∷ [])) (short_tag 91)) ∷ []) (Say.Drained 4)
    ∷ answered (Do.Post 0 0 (filled_line 16)) Say.Ok
    ∷ answered_with (Do.Drain 0) ((Seal 0 (ctr 0 12) (line_of (range_with_len 28 4 ++ range_with_len 0 16 ++ range_with_len 48 16 ++ range_with_len 32 16 ++ range_with_len 80 12)) (short_tag 28)) ∷ []) (Say.Drained 5)
    ∷ answered (Do.Post 0 0 (filled_line 31)) Say.Ok
    ∷ answered_with (Do.Drain 0) ((Seal 0 (ctr 0 13) (line_of (18 ∷ 17 ∷ 16 ∷ 15 ∷ 14 ∷ 13 ∷ 12 ∷ 11 ∷ 10 ∷ 9 ∷ 8 ∷ 7 ∷ 6 ∷ 5 ∷ 4 ∷ 3 ∷ 2 ∷ 1 ∷ 0 ∷ 63 ∷ 62 ∷ 61 ∷ 60 ∷ 59 ∷ 58 ∷ 57 ∷ 56 ∷ 55 ∷ 54 ∷ 53 ∷ 52 ∷ 51 ∷ 50 ∷ 49 ∷ 48 ∷ 47 ∷ 46 ∷ 45 ∷ 44 ∷ 43 ∷ 42 ∷ 41 ∷ 40 ∷ 39 ∷ 38 ∷ 37 ∷ 36 ∷ 35 ∷ 34 ∷ 33 ∷ 32 ∷ 95 ∷ 94 ∷ 93 ∷ 92 ∷ 91 ∷ 90 ∷ 89 ∷ 88 ∷ 87 ∷ 86 ∷ 85 ∷ 84 ∷ 83 ∷ [])) (short_tag 93)) ∷ []) (Say.Drained 4)
    ∷ answered (Do.Post 0 0 (filled_line 69)) Say.Ok
    ∷ answered_with (Do.Drain 0) ((Seal 0 (ctr 0 14) (line_of (75 ∷ 74 ∷ 85 ∷ 84 ∷ 87 ∷ 86 ∷ 81 ∷ 80 ∷ 83 ∷ 82 ∷ 93 ∷ 92 ∷ 95 ∷ 94 ∷ 89 ∷ 88 ∷ 91 ∷ 90 ∷ 101 ∷ 100 ∷ 103 ∷ 102 ∷ 97 ∷ 96 ∷ 99 ∷ 98 ∷ 109 ∷ 108 ∷ 111 ∷ 110 ∷ 105 ∷ 104 ∷ 107 ∷ 106 ∷ 117 ∷ 116 ∷ 119 ∷ 118 ∷ 113 ∷ 112 ∷ 115 ∷ 114 ∷ 125 ∷ 124 ∷ 127 ∷ 126 ∷ 121 ∷ 120 ∷ 123 ∷ 122 ∷ 5 ∷ 4 ∷ 7 ∷ 6 ∷ 1 ∷ 0 ∷ 3 ∷ 2 ∷ 13 ∷ 12 ∷ 15 ∷ 14 ∷ 9 ∷ 8 ∷ [])) (short_tag 30)) ∷ []) (Say.Drained 4)
    ∷ answered (Do.Post 0 0 (filled_line 118)) Say.Ok
    ∷ answered_with (Do.Drain 0) ((Seal 0 (ctr 0 15) (line_of (121 ∷ 102 ∷ 103 ∷ 100 ∷ 101 ∷ 98 ∷ 99 ∷ 96 ∷ 97 ∷ 110 ∷ 111 ∷ 108 ∷ 109 ∷ 106 ∷ 107 ∷ 104 ∷ 105 ∷ 86 ∷ 87 ∷ 84 ∷ 85 ∷ 82 ∷ 83 ∷ 80 ∷ 81 ∷ 94 ∷ 95 ∷ 92 ∷ 93 ∷ 90 ∷ 91 ∷ 88 ∷ 89 ∷ 70 ∷ 71 ∷ 68 ∷ 69 ∷ 66 ∷ 67 ∷ 64 ∷ 65 ∷ 78 ∷ 79 ∷ 76 ∷ 77 ∷ 74 ∷ 75 ∷ 72 ∷ 73 ∷ 54 ∷ 55 ∷ 52 ∷ 53 ∷ 50 ∷ 51 ∷ 48 ∷ 49 ∷ 62 ∷ 63 ∷ 60 ∷ 61 ∷ 58 ∷ 59 ∷ 56 ∷ [])) (short_tag 95)) ∷ []) (Say.Drained 4)
    ∷ answered (Do.Post 0 0 (filled_line 229)) Say.Ok
    ∷ answered_with (Do.Drain 0) ((Seal 0 (ctr 0 16) (line_of (245 ∷ 244 ∷ 247 ∷ 246 ∷ 241 ∷ 240 ∷ 243 ∷ 242 ∷ 253 ∷ 252 ∷ 255 ∷ 254 ∷ 249 ∷ 248 ∷ 251 ∷ 250 ∷ 197 ∷ 196 ∷ 199 ∷ 198 ∷ 193 ∷ 192 ∷ 195 ∷ 194 ∷ 205 ∷ 204 ∷ 207 ∷ 206 ∷ 201 ∷ 200 ∷ 203 ∷ 202 ∷ 213 ∷ 212 ∷ 215 ∷ 214 ∷ 209 ∷ 208 ∷ 211 ∷ 210 ∷ 221 ∷ 220 ∷ 223 ∷ 222 ∷ 217 ∷ 216 ∷ 219 ∷ 218 ∷ 165 ∷ 164 ∷ 167 ∷ 166 ∷ 161 ∷ 160 ∷ 163 ∷ 162 ∷ 173 ∷ 172 ∷ 175 ∷ 174 ∷ 169 ∷ 168 ∷ 171 ∷ 170 ∷ [])) (short_tag 0)) ∷ []) (Say.Drained 5)
    ∷ answered (Do.Post 0 0 (filled_line 211)) Say.Ok
    ∷ answered_with (Do.Drain 0) ((Seal 0 (ctr 0 17) (line_of (194 ∷ 193 ∷ 192 ∷ 199 ∷ 198 ∷ 197 ∷ 196 ∷ 203 ∷ 202 ∷ 201 ∷ 200 ∷ 207 ∷ 206 ∷ 205 ∷ 204 ∷ 243 ∷ 242 ∷ 241 ∷ 240 ∷ 247 ∷ 246 ∷ 245 ∷ 244 ∷ 251 ∷ 250 ∷ 249 ∷ 248 ∷ 255 ∷ 254 ∷ 253 ∷ 252 ∷ 227 ∷ 226 ∷ 225 ∷ 224 ∷ 231 ∷ 230 ∷ 229 ∷ 228 ∷ 235 ∷ 234 ∷ 233 ∷ 232 ∷ 239 ∷ 238 ∷ 237 ∷ 236 ∷ 147 ∷ 146 ∷ 145 ∷ 144 ∷ 151 ∷ 150 ∷ 149 ∷ 148 ∷ 155 ∷ 154 ∷ 153 ∷ 152 ∷ 159 ∷ 158 ∷ 157 ∷ 156 ∷ 131 ∷ [])) (short_tag 65)) ∷ []) (Say.Drained 4)
    ∷ answered (Do.Post 0 0 (filled_line 104)) Say.Ok
    ∷ answered_with (Do.Drain 0) ((Seal 0 (ctr 0 18) (line_of (range_with_len 122 6 ++ range_with_len 112 8 ++ range_with_len 72 8 ++ range_with_len 64 8 ++ range_with_len 88 8 ++ range_with_len 80 8 ++ range_with_len 40 8 ++ range_with_len 32 8 ++ 56 ∷ 57 ∷ [])) (short_tag 2)) ∷ []) (Say.Drained 4)
    ∷ answered (Do.Post 0 0 (filled_line 47)) Say.Ok
    ∷ answered_with (Do.Drain 0) ((Seal 0 (ctr 0 19) (line_of (60 ∷ 59 ∷ 58 ∷ 57 ∷ 56 ∷ 55 ∷ 54 ∷ 53 ∷ 52 ∷ 51 ∷ 50 ∷ 49 ∷ 48 ∷ 15 ∷ 14 ∷ 13 ∷ 12 ∷ 11 ∷ 10 ∷ 9 ∷ 8 ∷ 7 ∷ 6 ∷ 5 ∷ 4 ∷ 3 ∷ 2 ∷ 1 ∷ 0 ∷ 31 ∷ 30 ∷ 29 ∷ 28 ∷ 27 ∷ 26 ∷ 25 ∷ 24 ∷ 23 ∷ 22 ∷ 21 ∷ 20 ∷ 19 ∷ 18 ∷ 17 ∷ 16 ∷ 111 ∷ 110 ∷ 109 ∷ 108 ∷ 107 ∷ 106 ∷ 105 ∷ 104 ∷ 103 ∷ 102 ∷ 101 ∷ 100 ∷ 99 ∷ 98 ∷ 97 ∷ 96 ∷ 127 ∷ 126 ∷ 125 ∷ [])) (short_tag 67)) ∷ []) (Say.Drained 4)
    ∷ answered (Do.Post 0 0 (filled_line 60)) Say.Ok
    ∷ answered_with (Do.Drain 0) ((Seal 0 (ctr 0 20) (line_of (range_with_len 40 4 ++ range_with_len 36 4 ++ range_with_len 32 4 ++ range_with_len 28 4 ++ range_with_len 24 4 ++ range_with_len 20 4 ++ range_with_len 16 4 ++ range_with_len 12 4 ++ range_with_len 8 4 ++ range_with_len 4 4 ++ range_with_len 0 4 ++ range_with_len 124 4 ++ range_with_len 120 4 ++ range_with_len 116 4 ++ range_with_len 112 4 ++ range_with_len 108 4)) (short_tag 4)) ∷ []) (Say.Drained 5)
    ∷ answered (Do.Post 0 0 (filled_line 10)) Say.Ok
    ∷ answered_with (Do.Drain 0) ((Seal 0 (ctr 0 21) (line_of (31 ∷ 28 ∷ 29 ∷ 18 ∷ 19 ∷ 16 ∷ 17 ∷ 22 ∷ 23 ∷ 20 ∷ 21 ∷ 42 ∷ 43 ∷ 40 ∷ 41 ∷ 46 ∷ 47 ∷ 44 ∷ 45 ∷ 34 ∷ 35 ∷ 32 ∷ 33 ∷ 38 ∷ 39 ∷ 36 ∷ 37 ∷ 58 ∷ 59 ∷ 56 ∷ 57 ∷ 62 ∷ 63 ∷ 60 ∷ 61 ∷ 50 ∷ 51 ∷ 48 ∷ 49 ∷ 54 ∷ 55 ∷ 52 ∷ 53 ∷ 74 ∷ 75 ∷ 72 ∷ 73 ∷ 78 ∷ 79 ∷ 76 ∷ 77 ∷ 66 ∷ 67 ∷ 64 ∷ 65 ∷ 70 ∷ 71 ∷ 68 ∷ 69 ∷ 90 ∷ 91 ∷ 88 ∷ 89 ∷ 94 ∷ [])) (short_tag 69)) ∷ []) (Say.Drained 4)
    ∷ answered (Do.Post 0 0 (filled_line 206)) Say.Ok
    ∷ answered_with (Do.Drain 0) ((Seal 0 (ctr 0 22) (line_of (216 ∷ 217 ∷ 214 ∷ 215 ∷ 212 ∷ 213 ∷ 210 ∷ 211 ∷ 208 ∷ 209 ∷ 238 ∷ 239 ∷ 236 ∷ 237 ∷ 234 ∷ 235 ∷ 232 ∷ 233 ∷ 230 ∷ 231 ∷ 228 ∷ 229 ∷ 226 ∷ 227 ∷ 224 ∷ 225 ∷ 254 ∷ 255 ∷ 252 ∷ 253 ∷ 250 ∷ 251 ∷ 248 ∷ 249 ∷ 246 ∷ 247 ∷ 244 ∷ 245 ∷ 242 ∷ 243 ∷ 240 ∷ 241 ∷ 142 ∷ 143 ∷ 140 ∷ 141 ∷ 138 ∷ 139 ∷ 136 ∷ 137 ∷ 134 ∷ 135 ∷ 132 ∷ 133 ∷ 130 ∷ 131 ∷ 128 ∷ 129 ∷ 158 ∷ 159 ∷ 156 ∷ 157 ∷ 154 ∷ 155 ∷ [])) (short_tag 6)) ∷ []) (Say.Drained 4)
    ∷ answered (Do.Post 0 0 (filled_line 174)) Say.Ok
    ∷ answered_with (Do.Drain 0) ((Seal 0 (ctr 0 23) (line_of (185 ∷ 182 ∷ 183 ∷ 180 ∷ 181 ∷ 178 ∷ 179 ∷ 176 ∷ 177 ∷ 142 ∷ 143 ∷ 140 ∷ 141 ∷ 138 ∷ 139 ∷ 136 ∷ 137 ∷ 134 ∷ 135 ∷ 132 ∷ 133 ∷ 130 ∷ 131 ∷ 128 ∷ 129 ∷ 158 ∷ 159 ∷ 156 ∷ 157 ∷ 154 ∷ 155 ∷ 152 ∷ 153 ∷ 150 ∷ 151 ∷ 148 ∷ 149 ∷ 146 ∷ 147 ∷ 144 ∷ 145 ∷ 238 ∷ 239 ∷ 236 ∷ 237 ∷ 234 ∷ 235 ∷ 232 ∷ 233 ∷ 230 ∷ 231 ∷ 228 ∷ 229 ∷ 226 ∷ 227 ∷ 224 ∷ 225 ∷ 254 ∷ 255 ∷ 252 ∷ 253 ∷ 250 ∷ 251 ∷ 248 ∷ [])) (short_tag 71)) ∷ []) (Say.Drained 4)
    ∷ answered (Do.Post 0 0 (filled_line 101)) Say.Ok
    ∷ answered_with (Do.Drain 0) ((Seal 0 (ctr 0 24) (line_of (125 ∷ 124 ∷ 127 ∷ 126 ∷ 121 ∷ 120 ∷ 123 ∷ 122 ∷ 69 ∷ 68 ∷ 71 ∷ 70 ∷ 65 ∷ 64 ∷ 67 ∷ 66 ∷ 77 ∷ 76 ∷ 79 ∷ 78 ∷ 73 ∷ 72 ∷ 75 ∷ 74 ∷ 85 ∷ 84 ∷ 87 ∷ 86 ∷ 81 ∷ 80 ∷ 83 ∷ 82 ∷ 93 ∷ 92 ∷ 95 ∷ 94 ∷ 89 ∷ 88 ∷ 91 ∷ 90 ∷ 37 ∷ 36 ∷ 39 ∷ 38 ∷ 33 ∷ 32 ∷ 35 ∷ 34 ∷ 45 ∷ 44 ∷ 47 ∷ 46 ∷ 41 ∷ 40 ∷ 43 ∷ 42 ∷ 53 ∷ 52 ∷ 55 ∷ 54 ∷ 49 ∷ 48 ∷ 51 ∷ 50 ∷ [])) (short_tag 8)) ∷ []) (Say.Drained 5)
    ∷ answered (Do.Post 0 0 (filled_line 105)) Say.Ok
    ∷ answered_with (Do.Drain 0) ((Seal 0 (ctr 0 25) (line_of (112 ∷ 115 ∷ 114 ∷ 117 ∷ 116 ∷ 119 ∷ 118 ∷ 73 ∷ 72 ∷ 75 ∷ 74 ∷ 77 ∷ 76 ∷ 79 ∷ 78 ∷ 65 ∷ 64 ∷ 67 ∷ 66 ∷ 69 ∷ 68 ∷ 71 ∷ 70 ∷ 89 ∷ 88 ∷ 91 ∷ 90 ∷ 93 ∷ 92 ∷ 95 ∷ 94 ∷ 81 ∷ 80 ∷ 83 ∷ 82 ∷ 85 ∷ 84 ∷ 87 ∷ 86 ∷ 41 ∷ 40 ∷ 43 ∷ 42 ∷ 45 ∷ 44 ∷ 47 ∷ 46 ∷ 33 ∷ 32 ∷ 35 ∷ 34 ∷ 37 ∷ 36 ∷ 39 ∷ 38 ∷ 57 ∷ 56 ∷ 59 ∷ 58 ∷ 61 ∷ 60 ∷ 63 ∷ 62 ∷ 49 ∷ [])) (short_tag 73)) ∷ []) (Say.Drained 4)
    ∷ answered (Do.Post 0 0 (filled_line 169)) Say.Ok
    ∷ answered_with (Do.Drain 0) ((Seal 0 (ctr 0 26) (line_of (179 ∷ 178 ∷ 181 ∷ 180 ∷ 183 ∷ 182 ∷ 137 ∷ 136 ∷ 139 ∷ 138 ∷ 141 ∷ 140 ∷ 143 ∷ 142 ∷ 129 ∷ 128 ∷ 131 ∷ 130 ∷ 133 ∷ 132 ∷ 135 ∷ 134 ∷ 153 ∷ 152 ∷ 155 ∷ 154 ∷ 157 ∷ 156 ∷ 159 ∷ 158 ∷ 145 ∷ 144 ∷ 147 ∷ 146 ∷ 149 ∷ 148 ∷ 151 ∷ 150 ∷ 233 ∷ 232 ∷ 235 ∷ 234 ∷ 237 ∷ 236 ∷ 239 ∷ 238 ∷ 225 ∷ 224 ∷ 227 ∷ 226 ∷ 229 ∷ 228 ∷ 231 ∷ 230 ∷ 249 ∷ 248 ∷ 251 ∷ 250 ∷ 253 ∷ 252 ∷ 255 ∷ 254 ∷ 241 ∷ 240 ∷ [])) (short_tag 10)) ∷ []) (Say.Drained 4)
    ∷ answered (Do.Post 0 0 (filled_line 200)) Say.Ok
    ∷ answered_with (Do.Drain 0) ((Seal 0 (ctr 0 27) (line_of (range_with_len 211 5 ++ range_with_len 232 8 ++ range_with_len 224 8 ++ range_with_len 248 8 ++ range_with_len 240 8 ++ range_with_len 136 8 ++ range_with_len 128 8 ++ range_with_len 152 8 ++ 144 ∷ 145 ∷ 146 ∷ [])) (short_tag 75)) ∷ []) (Say.Drained 4)
    ∷ answered (Do.Post 0 0 (filled_line 186)) Say.Ok
    ∷ answered_with (Do.Drain 0) ((Seal 0 (ctr 0 28) (line_of (166 ∷ 167 ∷ 164 ∷ 165 ∷ 154 ∷ 155 ∷ 152 ∷ 153 ∷ 158 ∷ 159 ∷ 156 ∷ 157 ∷ 146 ∷ 147 ∷ 144 ∷ 145 ∷ 150 ∷ 151 ∷ 148 ∷ 149 ∷ 138 ∷ 139 ∷ 136 ∷ 137 ∷ 142 ∷ 143 ∷ 140 ∷ 141 ∷ 130 ∷ 131 ∷ 128 ∷ 129 ∷ 134 ∷ 135 ∷ 132 ∷ 133 ∷ 250 ∷ 251 ∷ 248 ∷ 249 ∷ 254 ∷ 255 ∷ 252 ∷ 253 ∷ 242 ∷ 243 ∷ 240 ∷ 241 ∷ 246 ∷ 247 ∷ 244 ∷ 245 ∷ 234 ∷ 235 ∷ 232 ∷ 233 ∷ 238 ∷ 239 ∷ 236 ∷ 237 ∷ 226 ∷ 227 ∷ 224 ∷ 225 ∷ [])) (short_tag 12)) ∷ []) (Say.Drained 5)
    ∷ answered (Do.Post 0 0 (filled_line 126)) Say.Ok
    ∷ answered_with (Do.Drain 0) ((Seal 0 (ctr 0 29) (line_of (99 ∷ 96 ∷ 97 ∷ 94 ∷ 95 ∷ 92 ∷ 93 ∷ 90 ∷ 91 ∷ 88 ∷ 89 ∷ 86 ∷ 87 ∷ 84 ∷ 85 ∷ 82 ∷ 83 ∷ 80 ∷ 81 ∷ 78 ∷ 79 ∷ 76 ∷ 77 ∷ 74 ∷ 75 ∷ 72 ∷ 73 ∷ 70 ∷ 71 ∷ 68 ∷ 69 ∷ 66 ∷ 67 ∷ 64 ∷ 65 ∷ 62 ∷ 63 ∷ 60 ∷ 61 ∷ 58 ∷ 59 ∷ 56 ∷ 57 ∷ 54 ∷ 55 ∷ 52 ∷ 53 ∷ 50 ∷ 51 ∷ 48 ∷ 49 ∷ 46 ∷ 47 ∷ 44 ∷ 45 ∷ 42 ∷ 43 ∷ 40 ∷ 41 ∷ 38 ∷ 39 ∷ 36 ∷ 37 ∷ 34 ∷ [])) (short_tag 77)) ∷ []) (Say.Drained 4)
    ∷ answered (Do.Post 0 0 (filled_line 107)) Say.Ok
    ∷ answered_with (Do.Drain 0) ((Seal 0 (ctr 0 30) (line_of (117 ∷ 116 ∷ 75 ∷ 74 ∷ 73 ∷ 72 ∷ 79 ∷ 78 ∷ 77 ∷ 76 ∷ 67 ∷ 66 ∷ 65 ∷ 64 ∷ 71 ∷ 70 ∷ 69 ∷ 68 ∷ 91 ∷ 90 ∷ 89 ∷ 88 ∷ 95 ∷ 94 ∷ 93 ∷ 92 ∷ 83 ∷ 82 ∷ 81 ∷ 80 ∷ 87 ∷ 86 ∷ 85 ∷ 84 ∷ 43 ∷ 42 ∷ 41 ∷ 40 ∷ 47 ∷ 46 ∷ 45 ∷ 44 ∷ 35 ∷ 34 ∷ 33 ∷ 32 ∷ 39 ∷ 38 ∷ 37 ∷ 36 ∷ 59 ∷ 58 ∷ 57 ∷ 56 ∷ 63 ∷ 62 ∷ 61 ∷ 60 ∷ 51 ∷ 50 ∷ 49 ∷ 48 ∷ 55 ∷ 54 ∷ [])) (short_tag 14)) ∷ []) (Say.Drained 4)
    ∷ answered (Do.Post 0 0 (filled_line 111)) Say.Ok
    ∷ answered_with (Do.Drain 0) ((Seal 0 (ctr 0 31) (line_of (112 ∷ 79 ∷ 78 ∷ 77 ∷ 76 ∷ 75 ∷ 74 ∷ 73 ∷ 72 ∷ 71 ∷ 70 ∷ 69 ∷ 68 ∷ 67 ∷ 66 ∷ 65 ∷ 64 ∷ 95 ∷ 94 ∷ 93 ∷ 92 ∷ 91 ∷ 90 ∷ 89 ∷ 88 ∷ 87 ∷ 86 ∷ 85 ∷ 84 ∷ 83 ∷ 82 ∷ 81 ∷ 80 ∷ 47 ∷ 46 ∷ 45 ∷ 44 ∷ 43 ∷ 42 ∷ 41 ∷ 40 ∷ 39 ∷ 38 ∷ 37 ∷ 36 ∷ 35 ∷ 34 ∷ 33 ∷ 32 ∷ 63 ∷ 62 ∷ 61 ∷ 60 ∷ 59 ∷ 58 ∷ 57 ∷ 56 ∷ 55 ∷ 54 ∷ 53 ∷ 52 ∷ 51 ∷ 50 ∷ 49 ∷ [])) (short_tag 79)) ∷ []) (Say.Drained 4)
    ∷ answered (Do.Post 0 0 (filled_line 213)) Say.Ok
    ∷ answered_with (Do.Drain 0) ((Seal 0 (ctr 0 32) (line_of (245 ∷ 244 ∷ 247 ∷ 246 ∷ 241 ∷ 240 ∷ 243 ∷ 242 ∷ 253 ∷ 252 ∷ 255 ∷ 254 ∷ 249 ∷ 248 ∷ 251 ∷ 250 ∷ 229 ∷ 228 ∷ 231 ∷ 230 ∷ 225 ∷ 224 ∷ 227 ∷ 226 ∷ 237 ∷ 236 ∷ 239 ∷ 238 ∷ 233 ∷ 232 ∷ 235 ∷ 234 ∷ 149 ∷ 148 ∷ 151 ∷ 150 ∷ 145 ∷ 144 ∷ 147 ∷ 146 ∷ 157 ∷ 156 ∷ 159 ∷ 158 ∷ 153 ∷ 152 ∷ 155 ∷ 154 ∷ 133 ∷ 132 ∷ 135 ∷ 134 ∷ 129 ∷ 128 ∷ 131 ∷ 130 ∷ 141 ∷ 140 ∷ 143 ∷ 142 ∷ 137 ∷ 136 ∷ 139 ∷ 138 ∷ [])) (short_tag 48)) ∷ []) (Say.Drained 5)
    ∷ answered (Do.Post 0 0 (filled_line 30)) Say.Ok
    ∷ answered_with (Do.Drain 0) ((Seal 0 (ctr 0 33) (line_of (63 ∷ 60 ∷ 61 ∷ 58 ∷ 59 ∷ 56 ∷ 57 ∷ 54 ∷ 55 ∷ 52 ∷ 53 ∷ 50 ∷ 51 ∷ 48 ∷ 49 ∷ 46 ∷ 47 ∷ 44 ∷ 45 ∷ 42 ∷ 43 ∷ 40 ∷ 41 ∷ 38 ∷ 39 ∷ 36 ∷ 37 ∷ 34 ∷ 35 ∷ 32 ∷ 33 ∷ 94 ∷ 95 ∷ 92 ∷ 93 ∷ 90 ∷ 91 ∷ 88 ∷ 89 ∷ 86 ∷ 87 ∷ 84 ∷ 85 ∷ 82 ∷ 83 ∷ 80 ∷ 81 ∷ 78 ∷ 79 ∷ 76 ∷ 77 ∷ 74 ∷ 75 ∷ 72 ∷ 73 ∷ 70 ∷ 71 ∷ 68 ∷ 69 ∷ 66 ∷ 67 ∷ 64 ∷ 65 ∷ 126 ∷ [])) (short_tag 113)) ∷ []) (Say.Drained 4)
    ∷ answered (Do.Post 0 0 (filled_line 26)) Say.Ok
    ∷ answered_with (Do.Drain 0) ((Seal 0 (ctr 0 34) (line_of (56 ∷ 57 ∷ 62 ∷ 63 ∷ 60 ∷ 61 ∷ 50 ∷ 51 ∷ 48 ∷ 49 ∷ 54 ∷ 55 ∷ 52 ∷ 53 ∷ 42 ∷ 43 ∷ 40 ∷ 41 ∷ 46 ∷ 47 ∷ 44 ∷ 45 ∷ 34 ∷ 35 ∷ 32 ∷ 33 ∷ 38 ∷ 39 ∷ 36 ∷ 37 ∷ 90 ∷ 91 ∷ 88 ∷ 89 ∷ 94 ∷ 95 ∷ 92 ∷ 93 ∷ 82 ∷ 83 ∷ 80 ∷ 81 ∷ 86 ∷ 87 ∷ 84 ∷ 85 ∷ 74 ∷ 75 ∷ 72 ∷ 73 ∷ 78 ∷ 79 ∷ 76 ∷ 77 ∷ 66 ∷ 67 ∷ 64 ∷ 65 ∷ 70 ∷ 71 ∷ 68 ∷ 69 ∷ 122 ∷ 123 ∷ [])) (short_tag 50)) ∷ []) (Say.Drained 4)
    ∷ answered (Do.Post 0 0 (filled_line 92)) Say.Ok
    ∷ answered_with (Do.Drain 0) ((Seal 0 (ctr 0 35) (line_of (127 ∷ range_with_len 120 4 ++ range_with_len 116 4 ++ range_with_len 112 4 ++ range_with_len 108 4 ++ range_with_len 104 4 ++ range_with_len 100 4 ++ range_with_len 96 4 ++ range_with_len 28 4 ++ range_with_len 24 4 ++ range_with_len 20 4 ++ range_with_len 16 4 ++ range_with_len 12 4 ++ range_with_len 8 4 ++ range_with_len 4 4 ++ range_with_len 0 4 ++ 60 ∷ 61 ∷ 62 ∷ [])) (short_tag 115)) ∷ []) (Say.Drained 4)
    ∷ answered (Do.Post 0 0 (filled_line 182)) Say.Ok
    ∷ answered_with (Do.Drain 0) ((Seal 0 (ctr 0 36) (line_of (146 ∷ 147 ∷ 144 ∷ 145 ∷ 158 ∷ 159 ∷ 156 ∷ 157 ∷ 154 ∷ 155 ∷ 152 ∷ 153 ∷ 134 ∷ 135 ∷ 132 ∷ 133 ∷ 130 ∷ 131 ∷ 128 ∷ 129 ∷ 142 ∷ 143 ∷ 140 ∷ 141 ∷ 138 ∷ 139 ∷ 136 ∷ 137 ∷ 246 ∷ 247 ∷ 244 ∷ 245 ∷ 242 ∷ 243 ∷ 240 ∷ 241 ∷ 254 ∷ 255 ∷ 252 ∷ 253 ∷ 250 ∷ 251 ∷ 248 ∷ 249 ∷ 230 ∷ 231 ∷ 228 ∷ 229 ∷ 226 ∷ 227 ∷ 224 ∷ 225 ∷ 238 ∷ 239 ∷ 236 ∷ 237 ∷ 234 ∷ 235 ∷ 232 ∷ 233 ∷ 214 ∷ 215 ∷ 212 ∷ 213 ∷ [])) (short_tag 52)) ∷ []) (Say.Drained 5)
    ∷ answered (Do.Post 0 0 (filled_line 68)) Say.Ok
    ∷ answered_with (Do.Drain 0) ((Seal 0 (ctr 0 37) (line_of (97 ∷ 98 ∷ 99 ∷ range_with_len 108 4 ++ range_with_len 104 4 ++ range_with_len 116 4 ++ range_with_len 112 4 ++ range_with_len 124 4 ++ range_with_len 120 4 ++ range_with_len 4 4 ++ range_with_len 0 4 ++ range_with_len 12 4 ++ range_with_len 8 4 ++ range_with_len 20 4 ++ range_with_len 16 4 ++ range_with_len 28 4 ++ range_with_len 24 4 ++ range_with_len 36 4 ++ 32 ∷ [])) (short_tag 117)) ∷ []) (Say.Drained 4)
    ∷ answered (Do.Post 0 0 (filled_line 104)) Say.Ok
    ∷ answered_with (Do.Drain 0) ((Seal 0 (ctr 0 38) (line_of (78 ∷ 79 ∷ range_with_len 64 8 ++ range_with_len 88 8 ++ range_with_len 80 8 ++ range_with_len 40 8 ++ range_with_len 32 8 ++ range_with_len 56 8 ++ range_with_len 48 8 ++ range_with_len 8 6)) (short_tag 54)) ∷ []) (Say.Drained 4)
    ∷ answered (Do.Post 0 0 (filled_line 75)) Say.Ok
    ∷ answered_with (Do.Drain 0) ((Seal 0 (ctr 0 39) (line_of (108 ∷ 99 ∷ 98 ∷ 97 ∷ 96 ∷ 103 ∷ 102 ∷ 101 ∷ 100 ∷ 123 ∷ 122 ∷ 121 ∷ 120 ∷ 127 ∷ 126 ∷ 125 ∷ 124 ∷ 115 ∷ 114 ∷ 113 ∷ 112 ∷ 119 ∷ 118 ∷ 117 ∷ 116 ∷ 11 ∷ 10 ∷ 9 ∷ 8 ∷ 15 ∷ 14 ∷ 13 ∷ 12 ∷ 3 ∷ 2 ∷ 1 ∷ 0 ∷ 7 ∷ 6 ∷ 5 ∷ 4 ∷ 27 ∷ 26 ∷ 25 ∷ 24 ∷ 31 ∷ 30 ∷ 29 ∷ 28 ∷ 19 ∷ 18 ∷ 17 ∷ 16 ∷ 23 ∷ 22 ∷ 21 ∷ 20 ∷ 43 ∷ 42 ∷ 41 ∷ 40 ∷ 47 ∷ 46 ∷ 45 ∷ [])) (short_tag 119)) ∷ []) (Say.Drained 4)
    ∷ answered (Do.Post 0 0 (filled_line 192)) Say.Ok
    ∷ answered_with (Do.Drain 0) ((Seal 0 (ctr 0 40) (line_of (range_with_len 232 24 ++ range_with_len 128 40)) (short_tag 56)) ∷ []) (Say.Drained 5)
    ∷ answered (Do.Post 0 0 (filled_line 15)) Say.Ok
    ∷ answered_with (Do.Drain 0) ((Seal 0 (ctr 0 41) (line_of (38 ∷ 37 ∷ 36 ∷ 35 ∷ 34 ∷ 33 ∷ 32 ∷ 63 ∷ 62 ∷ 61 ∷ 60 ∷ 59 ∷ 58 ∷ 57 ∷ 56 ∷ 55 ∷ 54 ∷ 53 ∷ 52 ∷ 51 ∷ 50 ∷ 49 ∷ 48 ∷ 79 ∷ 78 ∷ 77 ∷ 76 ∷ 75 ∷ 74 ∷ 73 ∷ 72 ∷ 71 ∷ 70 ∷ 69 ∷ 68 ∷ 67 ∷ 66 ∷ 65 ∷ 64 ∷ 95 ∷ 94 ∷ 93 ∷ 92 ∷ 91 ∷ 90 ∷ 89 ∷ 88 ∷ 87 ∷ 86 ∷ 85 ∷ 84 ∷ 83 ∷ 82 ∷ 81 ∷ 80 ∷ 111 ∷ 110 ∷ 109 ∷ 108 ∷ 107 ∷ 106 ∷ 105 ∷ 104 ∷ 103 ∷ [])) (short_tag 121)) ∷ []) (Say.Drained 4)
    ∷ answered (Do.Post 0 0 (filled_line 44)) Say.Ok
    ∷ answered_with (Do.Drain 0) ((Seal 0 (ctr 0 42) (line_of (6 ∷ 7 ∷ range_with_len 0 4 ++ range_with_len 28 4 ++ range_with_len 24 4 ++ range_with_len 20 4 ++ range_with_len 16 4 ++ range_with_len 108 4 ++ range_with_len 104 4 ++ range_with_len 100 4 ++ range_with_len 96 4 ++ range_with_len 124 4 ++ range_with_len 120 4 ++ range_with_len 116 4 ++ range_with_len 112 4 ++ range_with_len 76 4 ++ range_with_len 72 4 ++ 68 ∷ 69 ∷ [])) (short_tag 58)) ∷ []) (Say.Drained 4)
    ∷ answered (Do.Post 0 0 (filled_line 224)) Say.Ok
    ∷ answered_with (Do.Drain 0) ((Seal 0 (ctr 0 43) (line_of (range_with_len 203 21 ++ range_with_len 160 32 ++ range_with_len 128 11)) (short_tag 123)) ∷ []) (Say.Drained 4)
    ∷ answered (Do.Post 0 0 (filled_line 111)) Say.Ok
    ∷ answered_with (Do.Drain 0) ((Seal 0 (ctr 0 44) (line_of (67 ∷ 66 ∷ 65 ∷ 64 ∷ 95 ∷ 94 ∷ 93 ∷ 92 ∷ 91 ∷ 90 ∷ 89 ∷ 88 ∷ 87 ∷ 86 ∷ 85 ∷ 84 ∷ 83 ∷ 82 ∷ 81 ∷ 80 ∷ 47 ∷ 46 ∷ 45 ∷ 44 ∷ 43 ∷ 42 ∷ 41 ∷ 40 ∷ 39 ∷ 38 ∷ 37 ∷ 36 ∷ 35 ∷ 34 ∷ 33 ∷ 32 ∷ 63 ∷ 62 ∷ 61 ∷ 60 ∷ 59 ∷ 58 ∷ 57 ∷ 56 ∷ 55 ∷ 54 ∷ 53 ∷ 52 ∷ 51 ∷ 50 ∷ 49 ∷ 48 ∷ 15 ∷ 14 ∷ 13 ∷ 12 ∷ 11 ∷ 10 ∷ 9 ∷ 8 ∷ 7 ∷ 6 ∷ 5 ∷ 4 ∷ [])) (short_tag 60)) ∷ []) (Say.Drained 5)
    ∷ answered (Do.Post 0 0 (filled_line 106)) Say.Ok
    ∷ answered_with (Do.Drain 0) ((Seal 0 (ctr 0 45) (line_of (71 ∷ 68 ∷ 69 ∷ 90 ∷ 91 ∷ 88 ∷ 89 ∷ 94 ∷ 95 ∷ 92 ∷ 93 ∷ 82 ∷ 83 ∷ 80 ∷ 81 ∷ 86 ∷ 87 ∷ 84 ∷ 85 ∷ 42 ∷ 43 ∷ 40 ∷ 41 ∷ 46 ∷ 47 ∷ 44 ∷ 45 ∷ 34 ∷ 35 ∷ 32 ∷ 33 ∷ 38 ∷ 39 ∷ 36 ∷ 37 ∷ 58 ∷ 59 ∷ 56 ∷ 57 ∷ 62 ∷ 63 ∷ 60 ∷ 61 ∷ 50 ∷ 51 ∷ 48 ∷ 49 ∷ 54 ∷ 55 ∷ 52 ∷ 53 ∷ 10 ∷ 11 ∷ 8 ∷ 9 ∷ 14 ∷ 15 ∷ 12 ∷ 13 ∷ 2 ∷ 3 ∷ 0 ∷ 1 ∷ 6 ∷ [])) (short_tag 125)) ∷ []) (Say.Drained 4)
    ∷ answered (Do.Post 0 0 (filled_line 221)) Say.Ok
    ∷ answered_with (Do.Drain 0) ((Seal 0 (ctr 0 46) (line_of (243 ∷ 242 ∷ 237 ∷ 236 ∷ 239 ∷ 238 ∷ 233 ∷ 232 ∷ 235 ∷ 234 ∷ 229 ∷ 228 ∷ 231 ∷ 230 ∷ 225 ∷ 224 ∷ 227 ∷ 226 ∷ 157 ∷ 156 ∷ 159 ∷ 158 ∷ 153 ∷ 152 ∷ 155 ∷ 154 ∷ 149 ∷ 148 ∷ 151 ∷ 150 ∷ 145 ∷ 144 ∷ 147 ∷ 146 ∷ 141 ∷ 140 ∷ 143 ∷ 142 ∷ 137 ∷ 136 ∷ 139 ∷ 138 ∷ 133 ∷ 132 ∷ 135 ∷ 134 ∷ 129 ∷ 128 ∷ 131 ∷ 130 ∷ 189 ∷ 188 ∷ 191 ∷ 190 ∷ 185 ∷ 184 ∷ 187 ∷ 186 ∷ 181 ∷ 180 ∷ 183 ∷ 182 ∷ 177 ∷ 176 ∷ [])) (short_tag 62)) ∷ []) (Say.Drained 4)
    ∷ answered (Do.Post 0 0 (filled_line 188)) Say.Ok
    ∷ answered_with (Do.Drain 0) ((Seal 0 (ctr 0 47) (line_of (147 ∷ range_with_len 140 4 ++ range_with_len 136 4 ++ range_with_len 132 4 ++ range_with_len 128 4 ++ range_with_len 252 4 ++ range_with_len 248 4 ++ range_with_len 244 4 ++ range_with_len 240 4 ++ range_with_len 236 4 ++ range_with_len 232 4 ++ range_with_len 228 4 ++ range_with_len 224 4 ++ range_with_len 220 4 ++ range_with_len 216 4 ++ range_with_len 212 4 ++ 208 ∷ 209 ∷ 210 ∷ [])) (short_tag 127)) ∷ []) (Say.Drained 4)
    ∷ answered (Do.Post 0 0 (filled_line 99)) Say.Ok
    ∷ answered_with (Do.Drain 0) ((Seal 0 (ctr 0 48) (line_of (83 ∷ 82 ∷ 81 ∷ 80 ∷ 87 ∷ 86 ∷ 85 ∷ 84 ∷ 91 ∷ 90 ∷ 89 ∷ 88 ∷ 95 ∷ 94 ∷ 93 ∷ 92 ∷ 35 ∷ 34 ∷ 33 ∷ 32 ∷ 39 ∷ 38 ∷ 37 ∷ 36 ∷ 43 ∷ 42 ∷ 41 ∷ 40 ∷ 47 ∷ 46 ∷ 45 ∷ 44 ∷ 51 ∷ 50 ∷ 49 ∷ 48 ∷ 55 ∷ 54 ∷ 53 ∷ 52 ∷ 59 ∷ 58 ∷ 57 ∷ 56 ∷ 63 ∷ 62 ∷ 61 ∷ 60 ∷ 3 ∷ 2 ∷ 1 ∷ 0 ∷ 7 ∷ 6 ∷ 5 ∷ 4 ∷ 11 ∷ 10 ∷ 9 ∷ 8 ∷ 15 ∷ 14 ∷ 13 ∷ 12 ∷ [])) (short_tag 32)) ∷ []) (Say.Drained 5)
    ∷ answered (Do.Post 0 0 (filled_line 169)) Say.Ok
    ∷ answered_with (Do.Drain 0) ((Seal 0 (ctr 0 49) (line_of (152 ∷ 155 ∷ 154 ∷ 157 ∷ 156 ∷ 159 ∷ 158 ∷ 145 ∷ 144 ∷ 147 ∷ 146 ∷ 149 ∷ 148 ∷ 151 ∷ 150 ∷ 233 ∷ 232 ∷ 235 ∷ 234 ∷ 237 ∷ 236 ∷ 239 ∷ 238 ∷ 225 ∷ 224 ∷ 227 ∷ 226 ∷ 229 ∷ 228 ∷ 231 ∷ 230 ∷ 249 ∷ 248 ∷ 251 ∷ 250 ∷ 253 ∷ 252 ∷ 255 ∷ 254 ∷ 241 ∷ 240 ∷ 243 ∷ 242 ∷ 245 ∷ 244 ∷ 247 ∷ 246 ∷ 201 ∷ 200 ∷ 203 ∷ 202 ∷ 205 ∷ 204 ∷ 207 ∷ 206 ∷ 193 ∷ 192 ∷ 195 ∷ 194 ∷ 197 ∷ 196 ∷ 199 ∷ 198 ∷ 217 ∷ [])) (short_tag 97)) ∷ []) (Say.Drained 4)
    ∷ answered (Do.Post 0 0 (filled_line 112)) Say.Ok
    ∷ answered_with (Do.Drain 0) ((Seal 0 (ctr 0 50) (line_of (range_with_len 66 14 ++ range_with_len 48 16 ++ range_with_len 32 16 ++ range_with_len 16 16 ++ 0 ∷ 1 ∷ [])) (short_tag 34)) ∷ []) (Say.Drained 4)
    ∷ answered (Do.Post 0 0 (filled_line 246)) Say.Ok
    ∷ answered_with (Do.Drain 0) ((Seal 0 (ctr 0 51) (line_of (197 ∷ 194 ∷ 195 ∷ 192 ∷ 193 ∷ 206 ∷ 207 ∷ 204 ∷ 205 ∷ 202 ∷ 203 ∷ 200 ∷ 201 ∷ 182 ∷ 183 ∷ 180 ∷ 181 ∷ 178 ∷ 179 ∷ 176 ∷ 177 ∷ 190 ∷ 191 ∷ 188 ∷ 189 ∷ 186 ∷ 187 ∷ 184 ∷ 185 ∷ 166 ∷ 167 ∷ 164 ∷ 165 ∷ 162 ∷ 163 ∷ 160 ∷ 161 ∷ 174 ∷ 175 ∷ 172 ∷ 173 ∷ 170 ∷ 171 ∷ 168 ∷ 169 ∷ 150 ∷ 151 ∷ 148 ∷ 149 ∷ 146 ∷ 147 ∷ 144 ∷ 145 ∷ 158 ∷ 159 ∷ 156 ∷ 157 ∷ 154 ∷ 155 ∷ 152 ∷ 153 ∷ 134 ∷ 135 ∷ 132 ∷ [])) (short_tag 99)) ∷ []) (Say.Drained 4)
    ∷ answered (Do.Post 0 0 (filled_line 21)) Say.Ok
    ∷ answered_with (Do.Drain 0) ((Seal 0 (ctr 0 52) (line_of (33 ∷ 32 ∷ 35 ∷ 34 ∷ 45 ∷ 44 ∷ 47 ∷ 46 ∷ 41 ∷ 40 ∷ 43 ∷ 42 ∷ 85 ∷ 84 ∷ 87 ∷ 86 ∷ 81 ∷ 80 ∷ 83 ∷ 82 ∷ 93 ∷ 92 ∷ 95 ∷ 94 ∷ 89 ∷ 88 ∷ 91 ∷ 90 ∷ 69 ∷ 68 ∷ 71 ∷ 70 ∷ 65 ∷ 64 ∷ 67 ∷ 66 ∷ 77 ∷ 76 ∷ 79 ∷ 78 ∷ 73 ∷ 72 ∷ 75 ∷ 74 ∷ 117 ∷ 116 ∷ 119 ∷ 118 ∷ 113 ∷ 112 ∷ 115 ∷ 114 ∷ 125 ∷ 124 ∷ 127 ∷ 126 ∷ 121 ∷ 120 ∷ 123 ∷ 122 ∷ 101 ∷ 100 ∷ 103 ∷ 102 ∷ [])) (short_tag 36)) ∷ []) (Say.Drained 5)
    ∷ answered (Do.Post 0 0 (filled_line 134)) Say.Ok
    ∷ answered_with (Do.Drain 0) ((Seal 0 (ctr 0 53) (line_of (179 ∷ 176 ∷ 177 ∷ 190 ∷ 191 ∷ 188 ∷ 189 ∷ 186 ∷ 187 ∷ 184 ∷ 185 ∷ 198 ∷ 199 ∷ 196 ∷ 197 ∷ 194 ∷ 195 ∷ 192 ∷ 193 ∷ 206 ∷ 207 ∷ 204 ∷ 205 ∷ 202 ∷ 203 ∷ 200 ∷ 201 ∷ 214 ∷ 215 ∷ 212 ∷ 213 ∷ 210 ∷ 211 ∷ 208 ∷ 209 ∷ 222 ∷ 223 ∷ 220 ∷ 221 ∷ 218 ∷ 219 ∷ 216 ∷ 217 ∷ 230 ∷ 231 ∷ 228 ∷ 229 ∷ 226 ∷ 227 ∷ 224 ∷ 225 ∷ 238 ∷ 239 ∷ 236 ∷ 237 ∷ 234 ∷ 235 ∷ 232 ∷ 233 ∷ 246 ∷ 247 ∷ 244 ∷ 245 ∷ 242 ∷ [])) (short_tag 101)) ∷ []) (Say.Drained 4)
    ∷ answered (Do.Post 0 0 (filled_line 172)) Say.Ok
    ∷ answered_with (Do.Drain 0) ((Seal 0 (ctr 0 54) (line_of (154 ∷ 155 ∷ range_with_len 148 4 ++ range_with_len 144 4 ++ range_with_len 236 4 ++ range_with_len 232 4 ++ range_with_len 228 4 ++ range_with_len 224 4 ++ range_with_len 252 4 ++ range_with_len 248 4 ++ range_with_len 244 4 ++ range_with_len 240 4 ++ range_with_len 204 4 ++ range_with_len 200 4 ++ range_with_len 196 4 ++ range_with_len 192 4 ++ range_with_len 220 4 ++ 216 ∷ 217 ∷ [])) (short_tag 38)) ∷ []) (Say.Drained 4)
    ∷ answered (Do.Post 0 0 (filled_line 150)) Say.Ok
    ∷ answered_with (Do.Drain 0) ((Seal 0 (ctr 0 55) (line_of (161 ∷ 174 ∷ 175 ∷ 172 ∷ 173 ∷ 170 ∷ 171 ∷ 168 ∷ 169 ∷ 214 ∷ 215 ∷ 212 ∷ 213 ∷ 210 ∷ 211 ∷ 208 ∷ 209 ∷ 222 ∷ 223 ∷ 220 ∷ 221 ∷ 218 ∷ 219 ∷ 216 ∷ 217 ∷ 198 ∷ 199 ∷ 196 ∷ 197 ∷ 194 ∷ 195 ∷ 192 ∷ 193 ∷ 206 ∷ 207 ∷ 204 ∷ 205 ∷ 202 ∷ 203 ∷ 200 ∷ 201 ∷ 246 ∷ 247 ∷ 244 ∷ 245 ∷ 242 ∷ 243 ∷ 240 ∷ 241 ∷ 254 ∷ 255 ∷ 252 ∷ 253 ∷ 250 ∷ 251 ∷ 248 ∷ 249 ∷ 230 ∷ 231 ∷ 228 ∷ 229 ∷ 226 ∷ 227 ∷ 224 ∷ [])) (short_tag 103)) ∷ []) (Say.Drained 4)
    ∷ answered (Do.Post 0 0 (filled_line 171)) Say.Ok
    ∷ answered_with (Do.Drain 0) ((Seal 0 (ctr 0 56) (line_of (147 ∷ 146 ∷ 145 ∷ 144 ∷ 151 ∷ 150 ∷ 149 ∷ 148 ∷ 235 ∷ 234 ∷ 233 ∷ 232 ∷ 239 ∷ 238 ∷ 237 ∷ 236 ∷ 227 ∷ 226 ∷ 225 ∷ 224 ∷ 231 ∷ 230 ∷ 229 ∷ 228 ∷ 251 ∷ 250 ∷ 249 ∷ 248 ∷ 255 ∷ 254 ∷ 253 ∷ 252 ∷ 243 ∷ 242 ∷ 241 ∷ 240 ∷ 247 ∷ 246 ∷ 245 ∷ 244 ∷ 203 ∷ 202 ∷ 201 ∷ 200 ∷ 207 ∷ 206 ∷ 205 ∷ 204 ∷ 195 ∷ 194 ∷ 193 ∷ 192 ∷ 199 ∷ 198 ∷ 197 ∷ 196 ∷ 219 ∷ 218 ∷ 217 ∷ 216 ∷ 223 ∷ 222 ∷ 221 ∷ 220 ∷ [])) (short_tag 40)) ∷ []) (Say.Drained 5)
    ∷ answered (Do.Post 0 0 (filled_line 202)) Say.Ok
    ∷ answered_with (Do.Drain 0) ((Seal 0 (ctr 0 57) (line_of (243 ∷ 240 ∷ 241 ∷ 246 ∷ 247 ∷ 244 ∷ 245 ∷ 138 ∷ 139 ∷ 136 ∷ 137 ∷ 142 ∷ 143 ∷ 140 ∷ 141 ∷ 130 ∷ 131 ∷ 128 ∷ 129 ∷ 134 ∷ 135 ∷ 132 ∷ 133 ∷ 154 ∷ 155 ∷ 152 ∷ 153 ∷ 158 ∷ 159 ∷ 156 ∷ 157 ∷ 146 ∷ 147 ∷ 144 ∷ 145 ∷ 150 ∷ 151 ∷ 148 ∷ 149 ∷ 170 ∷ 171 ∷ 168 ∷ 169 ∷ 174 ∷ 175 ∷ 172 ∷ 173 ∷ 162 ∷ 163 ∷ 160 ∷ 161 ∷ 166 ∷ 167 ∷ 164 ∷ 165 ∷ 186 ∷ 187 ∷ 184 ∷ 185 ∷ 190 ∷ 191 ∷ 188 ∷ 189 ∷ 178 ∷ [])) (short_tag 105)) ∷ []) (Say.Drained 4)
    ∷ answered (Do.Post 0 0 (filled_line 246)) Say.Ok
    ∷ answered_with (Do.Drain 0) ((Seal 0 (ctr 0 58) (line_of (204 ∷ 205 ∷ 202 ∷ 203 ∷ 200 ∷ 201 ∷ 182 ∷ 183 ∷ 180 ∷ 181 ∷ 178 ∷ 179 ∷ 176 ∷ 177 ∷ 190 ∷ 191 ∷ 188 ∷ 189 ∷ 186 ∷ 187 ∷ 184 ∷ 185 ∷ 166 ∷ 167 ∷ 164 ∷ 165 ∷ 162 ∷ 163 ∷ 160 ∷ 161 ∷ 174 ∷ 175 ∷ 172 ∷ 173 ∷ 170 ∷ 171 ∷ 168 ∷ 169 ∷ 150 ∷ 151 ∷ 148 ∷ 149 ∷ 146 ∷ 147 ∷ 144 ∷ 145 ∷ 158 ∷ 159 ∷ 156 ∷ 157 ∷ 154 ∷ 155 ∷ 152 ∷ 153 ∷ 134 ∷ 135 ∷ 132 ∷ 133 ∷ 130 ∷ 131 ∷ 128 ∷ 129 ∷ 142 ∷ 143 ∷ [])) (short_tag 42)) ∷ []) (Say.Drained 4)
    ∷ answered (Do.Post 0 0 (filled_line 161)) Say.Ok
    ∷ answered_with (Do.Drain 0) ((Seal 0 (ctr 0 59) (line_of (154 ∷ 157 ∷ 156 ∷ 159 ∷ 158 ∷ 225 ∷ 224 ∷ 227 ∷ 226 ∷ 229 ∷ 228 ∷ 231 ∷ 230 ∷ 233 ∷ 232 ∷ 235 ∷ 234 ∷ 237 ∷ 236 ∷ 239 ∷ 238 ∷ 241 ∷ 240 ∷ 243 ∷ 242 ∷ 245 ∷ 244 ∷ 247 ∷ 246 ∷ 249 ∷ 248 ∷ 251 ∷ 250 ∷ 253 ∷ 252 ∷ 255 ∷ 254 ∷ 193 ∷ 192 ∷ 195 ∷ 194 ∷ 197 ∷ 196 ∷ 199 ∷ 198 ∷ 201 ∷ 200 ∷ 203 ∷ 202 ∷ 205 ∷ 204 ∷ 207 ∷ 206 ∷ 209 ∷ 208 ∷ 211 ∷ 210 ∷ 213 ∷ 212 ∷ 215 ∷ 214 ∷ 217 ∷ 216 ∷ 219 ∷ [])) (short_tag 107)) ∷ []) (Say.Drained 4)
    ∷ answered (Do.Post 0 0 (filled_line 109)) Say.Ok
    ∷ answered_with (Do.Drain 0) ((Seal 0 (ctr 0 60) (line_of (81 ∷ 80 ∷ 83 ∷ 82 ∷ 45 ∷ 44 ∷ 47 ∷ 46 ∷ 41 ∷ 40 ∷ 43 ∷ 42 ∷ 37 ∷ 36 ∷ 39 ∷ 38 ∷ 33 ∷ 32 ∷ 35 ∷ 34 ∷ 61 ∷ 60 ∷ 63 ∷ 62 ∷ 57 ∷ 56 ∷ 59 ∷ 58 ∷ 53 ∷ 52 ∷ 55 ∷ 54 ∷ 49 ∷ 48 ∷ 51 ∷ 50 ∷ 13 ∷ 12 ∷ 15 ∷ 14 ∷ 9 ∷ 8 ∷ 11 ∷ 10 ∷ 5 ∷ 4 ∷ 7 ∷ 6 ∷ 1 ∷ 0 ∷ 3 ∷ 2 ∷ 29 ∷ 28 ∷ 31 ∷ 30 ∷ 25 ∷ 24 ∷ 27 ∷ 26 ∷ 21 ∷ 20 ∷ 23 ∷ 22 ∷ [])) (short_tag 44)) ∷ []) (Say.Drained 5)
    ∷ answered (Do.Post 0 0 (filled_line 48)) Say.Ok
    ∷ answered_with (Do.Drain 0) ((Seal 0 (ctr 0 61) (line_of (13 ∷ 14 ∷ 15 ∷ range_with_len 112 16 ++ range_with_len 96 16 ++ range_with_len 80 16 ++ range_with_len 64 13)) (short_tag 109)) ∷ []) (Say.Drained 4)
    ∷ answered (Do.Post 0 0 (filled_line 156)) Say.Ok
    ∷ answered_with (Do.Drain 0) ((Seal 0 (ctr 0 62) (line_of (162 ∷ 163 ∷ range_with_len 220 4 ++ range_with_len 216 4 ++ range_with_len 212 4 ++ range_with_len 208 4 ++ range_with_len 204 4 ++ range_with_len 200 4 ++ range_with_len 196 4 ++ range_with_len 192 4 ++ range_with_len 252 4 ++ range_with_len 248 4 ++ range_with_len 244 4 ++ range_with_len 240 4 ++ range_with_len 236 4 ++ range_with_len 232 4 ++ range_with_len 228 4 ++ 224 ∷ 225 ∷ [])) (short_tag 46)) ∷ []) (Say.Drained 4)
    ∷ answered (Do.Post 0 0 (filled_line 90)) Say.Ok
    ∷ answered_with (Do.Drain 0) ((Seal 0 (ctr 0 63) (line_of (101 ∷ 26 ∷ 27 ∷ 24 ∷ 25 ∷ 30 ∷ 31 ∷ 28 ∷ 29 ∷ 18 ∷ 19 ∷ 16 ∷ 17 ∷ 22 ∷ 23 ∷ 20 ∷ 21 ∷ 10 ∷ 11 ∷ 8 ∷ 9 ∷ 14 ∷ 15 ∷ 12 ∷ 13 ∷ 2 ∷ 3 ∷ 0 ∷ 1 ∷ 6 ∷ 7 ∷ 4 ∷ 5 ∷ 58 ∷ 59 ∷ 56 ∷ 57 ∷ 62 ∷ 63 ∷ 60 ∷ 61 ∷ 50 ∷ 51 ∷ 48 ∷ 49 ∷ 54 ∷ 55 ∷ 52 ∷ 53 ∷ 42 ∷ 43 ∷ 40 ∷ 41 ∷ 46 ∷ 47 ∷ 44 ∷ 45 ∷ 34 ∷ 35 ∷ 32 ∷ 33 ∷ 38 ∷ 39 ∷ 36 ∷ [])) (short_tag 111)) ∷ []) (Say.Drained 4)
    ∷ answered (Do.Post 0 0 (filled_line 151)) Say.Ok
    ∷ answered_with (Do.Drain 0) ((Seal 0 (ctr 0 64) (line_of (215 ∷ 214 ∷ 213 ∷ 212 ∷ 211 ∷ 210 ∷ 209 ∷ 208 ∷ 223 ∷ 222 ∷ 221 ∷ 220 ∷ 219 ∷ 218 ∷ 217 ∷ 216 ∷ 199 ∷ 198 ∷ 197 ∷ 196 ∷ 195 ∷ 194 ∷ 193 ∷ 192 ∷ 207 ∷ 206 ∷ 205 ∷ 204 ∷ 203 ∷ 202 ∷ 201 ∷ 200 ∷ 247 ∷ 246 ∷ 245 ∷ 244 ∷ 243 ∷ 242 ∷ 241 ∷ 240 ∷ 255 ∷ 254 ∷ 253 ∷ 252 ∷ 251 ∷ 250 ∷ 249 ∷ 248 ∷ 231 ∷ 230 ∷ 229 ∷ 228 ∷ 227 ∷ 226 ∷ 225 ∷ 224 ∷ 239 ∷ 238 ∷ 237 ∷ 236 ∷ 235 ∷ 234 ∷ 233 ∷ 232 ∷ [])) (short_tag 80)) ∷ []) (Say.Drained 5)
    ∷ answered (Do.Post 0 0 (filled_line 47)) Say.Ok
    ∷ answered_with (Do.Drain 0) ((Seal 0 (ctr 0 65) (line_of (110 ∷ 109 ∷ 108 ∷ 107 ∷ 106 ∷ 105 ∷ 104 ∷ 103 ∷ 102 ∷ 101 ∷ 100 ∷ 99 ∷ 98 ∷ 97 ∷ 96 ∷ 127 ∷ 126 ∷ 125 ∷ 124 ∷ 123 ∷ 122 ∷ 121 ∷ 120 ∷ 119 ∷ 118 ∷ 117 ∷ 116 ∷ 115 ∷ 114 ∷ 113 ∷ 112 ∷ 79 ∷ 78 ∷ 77 ∷ 76 ∷ 75 ∷ 74 ∷ 73 ∷ 72 ∷ 71 ∷ 70 ∷ 69 ∷ 68 ∷ 67 ∷ 66 ∷ 65 ∷ 64 ∷ 95 ∷ 94 ∷ 93 ∷ 92 ∷ 91 ∷ 90 ∷ 89 ∷ 88 ∷ 87 ∷ 86 ∷ 85 ∷ 84 ∷ 83 ∷ 82 ∷ 81 ∷ 80 ∷ 175 ∷ [])) (short_tag 145)) ∷ []) (Say.Drained 4)
    ∷ answered (Do.Post 0 0 (filled_line 88)) Say.Ok
    ∷ answered_with (Do.Drain 0) ((Seal 0 (ctr 0 66) (line_of (range_with_len 26 6 ++ range_with_len 16 8 ++ range_with_len 8 8 ++ range_with_len 0 8 ++ range_with_len 56 8 ++ range_with_len 48 8 ++ range_with_len 40 8 ++ range_with_len 32 8 ++ 216 ∷ 217 ∷ [])) (short_tag 82)) ∷ []) (Say.Drained 4)
    ∷ answered (Do.Post 0 0 (filled_line 98)) Say.Ok
    ∷ answered_with (Do.Drain 0) ((Seal 0 (ctr 0 67) (line_of (33 ∷ 38 ∷ 39 ∷ 36 ∷ 37 ∷ 42 ∷ 43 ∷ 40 ∷ 41 ∷ 46 ∷ 47 ∷ 44 ∷ 45 ∷ 50 ∷ 51 ∷ 48 ∷ 49 ∷ 54 ∷ 55 ∷ 52 ∷ 53 ∷ 58 ∷ 59 ∷ 56 ∷ 57 ∷ 62 ∷ 63 ∷ 60 ∷ 61 ∷ 2 ∷ 3 ∷ 0 ∷ 1 ∷ 6 ∷ 7 ∷ 4 ∷ 5 ∷ 10 ∷ 11 ∷ 8 ∷ 9 ∷ 14 ∷ 15 ∷ 12 ∷ 13 ∷ 18 ∷ 19 ∷ 16 ∷ 17 ∷ 22 ∷ 23 ∷ 20 ∷ 21 ∷ 26 ∷ 27 ∷ 24 ∷ 25 ∷ 30 ∷ 31 ∷ 28 ∷ 29 ∷ 226 ∷ 227 ∷ 224 ∷ [])) (short_tag 147)) ∷ []) (Say.Drained 4)
    ∷ answered (Do.Post 0 0 (filled_line 14)) Say.Ok
    ∷ answered_with (Do.Drain 0) ((Seal 0 (ctr 0 68) (line_of (74 ∷ 75 ∷ 72 ∷ 73 ∷ 70 ∷ 71 ∷ 68 ∷ 69 ∷ 66 ∷ 67 ∷ 64 ∷ 65 ∷ 94 ∷ 95 ∷ 92 ∷ 93 ∷ 90 ∷ 91 ∷ 88 ∷ 89 ∷ 86 ∷ 87 ∷ 84 ∷ 85 ∷ 82 ∷ 83 ∷ 80 ∷ 81 ∷ 110 ∷ 111 ∷ 108 ∷ 109 ∷ 106 ∷ 107 ∷ 104 ∷ 105 ∷ 102 ∷ 103 ∷ 100 ∷ 101 ∷ 98 ∷ 99 ∷ 96 ∷ 97 ∷ 126 ∷ 127 ∷ 124 ∷ 125 ∷ 122 ∷ 123 ∷ 120 ∷ 121 ∷ 118 ∷ 119 ∷ 116 ∷ 117 ∷ 114 ∷ 115 ∷ 112 ∷ 113 ∷ 142 ∷ 143 ∷ 140 ∷ 141 ∷ [])) (short_tag 84)) ∷ []) (Say.Drained 5)
    ∷ answered (Do.Post 0 0 (filled_line 191)) Say.Ok
    ∷ answered_with (Do.Drain 0) ((Seal 0 (ctr 0 69) (line_of (250 ∷ 249 ∷ 248 ∷ 247 ∷ 246 ∷ 245 ∷ 244 ∷ 243 ∷ 242 ∷ 241 ∷ 240 ∷ 239 ∷ 238 ∷ 237 ∷ 236 ∷ 235 ∷ 234 ∷ 233 ∷ 232 ∷ 231 ∷ 230 ∷ 229 ∷ 228 ∷ 227 ∷ 226 ∷ 225 ∷ 224 ∷ 223 ∷ 222 ∷ 221 ∷ 220 ∷ 219 ∷ 218 ∷ 217 ∷ 216 ∷ 215 ∷ 214 ∷ 213 ∷ 212 ∷ 211 ∷ 210 ∷ 209 ∷ 208 ∷ 207 ∷ 206 ∷ 205 ∷ 204 ∷ 203 ∷ 202 ∷ 201 ∷ 200 ∷ 199 ∷ 198 ∷ 197 ∷ 196 ∷ 195 ∷ 194 ∷ 193 ∷ 192 ∷ 63 ∷ 62 ∷ 61 ∷ 60 ∷ 59 ∷ [])) (short_tag 149)) ∷ []) (Say.Drained 4)
    ∷ answered (Do.Post 0 0 (filled_line 48)) Say.Ok
    ∷ answered_with (Do.Drain 0) ((Seal 0 (ctr 0 70) (line_of (range_with_len 118 10 ++ range_with_len 96 16 ++ range_with_len 80 16 ++ range_with_len 64 16 ++ range_with_len 176 6)) (short_tag 86)) ∷ []) (Say.Drained 4)
    ∷ answered (Do.Post 0 0 (filled_line 204)) Say.Ok
    ∷ answered_with (Do.Drain 0) ((Seal 0 (ctr 0 71) (line_of (139 ∷ range_with_len 132 4 ++ range_with_len 128 4 ++ range_with_len 156 4 ++ range_with_len 152 4 ++ range_with_len 148 4 ++ range_with_len 144 4 ++ range_with_len 172 4 ++ range_with_len 168 4 ++ range_with_len 164 4 ++ range_with_len 160 4 ++ range_with_len 188 4 ++ range_with_len 184 4 ++ range_with_len 180 4 ++ range_with_len 176 4 ++ range_with_len 76 4 ++ 72 ∷ 73 ∷ 74 ∷ [])) (short_tag 151)) ∷ []) (Say.Drained 4)
    ∷ answered (Do.Post 0 0 (filled_line 145)) Say.Ok
    ∷ answered_with (Do.Drain 0) ((Seal 0 (ctr 0 72) (line_of (217 ∷ 216 ∷ 219 ∷ 218 ∷ 221 ∷ 220 ∷ 223 ∷ 222 ∷ 193 ∷ 192 ∷ 195 ∷ 194 ∷ 197 ∷ 196 ∷ 199 ∷ 198 ∷ 201 ∷ 200 ∷ 203 ∷ 202 ∷ 205 ∷ 204 ∷ 207 ∷ 206 ∷ 241 ∷ 240 ∷ 243 ∷ 242 ∷ 245 ∷ 244 ∷ 247 ∷ 246 ∷ 249 ∷ 248 ∷ 251 ∷ 250 ∷ 253 ∷ 252 ∷ 255 ∷ 254 ∷ 225 ∷ 224 ∷ 227 ∷ 226 ∷ 229 ∷ 228 ∷ 231 ∷ 230 ∷ 233 ∷ 232 ∷ 235 ∷ 234 ∷ 237 ∷ 236 ∷ 239 ∷ 238 ∷ 17 ∷ 16 ∷ 19 ∷ 18 ∷ 21 ∷ 20 ∷ 23 ∷ 22 ∷ [])) (short_tag 88)) ∷ []) (Say.Drained 5)
    ∷ answered (Do.Post 0 0 (filled_line 156)) Say.Ok
    ∷ answered_with (Do.Drain 0) ((Seal 0 (ctr 0 73) (line_of (213 ∷ 214 ∷ 215 ∷ range_with_len 208 4 ++ range_with_len 204 4 ++ range_with_len 200 4 ++ range_with_len 196 4 ++ range_with_len 192 4 ++ range_with_len 252 4 ++ range_with_len 248 4 ++ range_with_len 244 4 ++ range_with_len 240 4 ++ range_with_len 236 4 ++ range_with_len 232 4 ++ range_with_len 228 4 ++ range_with_len 224 4 ++ range_with_len 28 4 ++ range_with_len 24 4 ++ 20 ∷ [])) (short_tag 153)) ∷ []) (Say.Drained 4)
    ∷ answered (Do.Post 0 0 (filled_line 100)) Say.Ok
    ∷ answered_with (Do.Drain 0) ((Seal 0 (ctr 0 74) (line_of (46 ∷ 47 ∷ range_with_len 40 4 ++ range_with_len 52 4 ++ range_with_len 48 4 ++ range_with_len 60 4 ++ range_with_len 56 4 ++ range_with_len 4 4 ++ range_with_len 0 4 ++ range_with_len 12 4 ++ range_with_len 8 4 ++ range_with_len 20 4 ++ range_with_len 16 4 ++ range_with_len 28 4 ++ range_with_len 24 4 ++ range_with_len 228 4 ++ range_with_len 224 4 ++ 236 ∷ 237 ∷ [])) (short_tag 90)) ∷ []) (Say.Drained 4)
    ∷ answered (Do.Post 0 0 (filled_line 58)) Say.Ok
    ∷ answered_with (Do.Drain 0) ((Seal 0 (ctr 0 75) (line_of (113 ∷ 118 ∷ 119 ∷ 116 ∷ 117 ∷ 106 ∷ 107 ∷ 104 ∷ 105 ∷ 110 ∷ 111 ∷ 108 ∷ 109 ∷ 98 ∷ 99 ∷ 96 ∷ 97 ∷ 102 ∷ 103 ∷ 100 ∷ 101 ∷ 90 ∷ 91 ∷ 88 ∷ 89 ∷ 94 ∷ 95 ∷ 92 ∷ 93 ∷ 82 ∷ 83 ∷ 80 ∷ 81 ∷ 86 ∷ 87 ∷ 84 ∷ 85 ∷ 74 ∷ 75 ∷ 72 ∷ 73 ∷ 78 ∷ 79 ∷ 76 ∷ 77 ∷ 66 ∷ 67 ∷ 64 ∷ 65 ∷ 70 ∷ 71 ∷ 68 ∷ 69 ∷ 186 ∷ 187 ∷ 184 ∷ 185 ∷ 190 ∷ 191 ∷ 188 ∷ 189 ∷ 178 ∷ 179 ∷ 176 ∷ [])) (short_tag 155)) ∷ []) (Say.Drained 4)
    ∷ answered (Do.Post 0 0 (filled_line 232)) Say.Ok
    ∷ answered_with (Do.Drain 0) ((Seal 0 (ctr 0 76) (line_of (range_with_len 164 4 ++ range_with_len 184 8 ++ range_with_len 176 8 ++ range_with_len 136 8 ++ range_with_len 128 8 ++ range_with_len 152 8 ++ range_with_len 144 8 ++ range_with_len 104 8 ++ range_with_len 96 4)) (short_tag 92)) ∷ []) (Say.Drained 5)
    ∷ answered (Do.Post 0 0 (filled_line 103)) Say.Ok
    ∷ answered_with (Do.Drain 0) ((Seal 0 (ctr 0 77) (line_of (42 ∷ 41 ∷ 40 ∷ 55 ∷ 54 ∷ 53 ∷ 52 ∷ 51 ∷ 50 ∷ 49 ∷ 48 ∷ 63 ∷ 62 ∷ 61 ∷ 60 ∷ 59 ∷ 58 ∷ 57 ∷ 56 ∷ 7 ∷ 6 ∷ 5 ∷ 4 ∷ 3 ∷ 2 ∷ 1 ∷ 0 ∷ 15 ∷ 14 ∷ 13 ∷ 12 ∷ 11 ∷ 10 ∷ 9 ∷ 8 ∷ 23 ∷ 22 ∷ 21 ∷ 20 ∷ 19 ∷ 18 ∷ 17 ∷ 16 ∷ 31 ∷ 30 ∷ 29 ∷ 28 ∷ 27 ∷ 26 ∷ 25 ∷ 24 ∷ 231 ∷ 230 ∷ 229 ∷ 228 ∷ 227 ∷ 226 ∷ 225 ∷ 224 ∷ 239 ∷ 238 ∷ 237 ∷ 236 ∷ 235 ∷ [])) (short_tag 157)) ∷ []) (Say.Drained 4)
    ∷ answered (Do.Post 0 0 (filled_line 170)) Say.Ok
    ∷ answered_with (Do.Drain 0) ((Seal 0 (ctr 0 78) (line_of (228 ∷ 229 ∷ 250 ∷ 251 ∷ 248 ∷ 249 ∷ 254 ∷ 255 ∷ 252 ∷ 253 ∷ 242 ∷ 243 ∷ 240 ∷ 241 ∷ 246 ∷ 247 ∷ 244 ∷ 245 ∷ 202 ∷ 203 ∷ 200 ∷ 201 ∷ 206 ∷ 207 ∷ 204 ∷ 205 ∷ 194 ∷ 195 ∷ 192 ∷ 193 ∷ 198 ∷ 199 ∷ 196 ∷ 197 ∷ 218 ∷ 219 ∷ 216 ∷ 217 ∷ 222 ∷ 223 ∷ 220 ∷ 221 ∷ 210 ∷ 211 ∷ 208 ∷ 209 ∷ 214 ∷ 215 ∷ 212 ∷ 213 ∷ 42 ∷ 43 ∷ 40 ∷ 41 ∷ 46 ∷ 47 ∷ 44 ∷ 45 ∷ 34 ∷ 35 ∷ 32 ∷ 33 ∷ 38 ∷ 39 ∷ [])) (short_tag 94)) ∷ []) (Say.Drained 4)
    ∷ answered (Do.Post 0 0 (filled_line 227)) Say.Ok
    ∷ answered_with (Do.Drain 0) ((Seal 0 (ctr 0 79) (line_of (172 ∷ 179 ∷ 178 ∷ 177 ∷ 176 ∷ 183 ∷ 182 ∷ 181 ∷ 180 ∷ 187 ∷ 186 ∷ 185 ∷ 184 ∷ 191 ∷ 190 ∷ 189 ∷ 188 ∷ 131 ∷ 130 ∷ 129 ∷ 128 ∷ 135 ∷ 134 ∷ 133 ∷ 132 ∷ 139 ∷ 138 ∷ 137 ∷ 136 ∷ 143 ∷ 142 ∷ 141 ∷ 140 ∷ 147 ∷ 146 ∷ 145 ∷ 144 ∷ 151 ∷ 150 ∷ 149 ∷ 148 ∷ 155 ∷ 154 ∷ 153 ∷ 152 ∷ 159 ∷ 158 ∷ 157 ∷ 156 ∷ 99 ∷ 98 ∷ 97 ∷ 96 ∷ 103 ∷ 102 ∷ 101 ∷ 100 ∷ 107 ∷ 106 ∷ 105 ∷ 104 ∷ 111 ∷ 110 ∷ 109 ∷ [])) (short_tag 159)) ∷ []) (Say.Drained 4)
    ∷ answered (Do.Post 0 0 (filled_line 206)) Say.Ok
    ∷ answered_with (Do.Drain 0) ((Seal 0 (ctr 0 80) (line_of (158 ∷ 159 ∷ 156 ∷ 157 ∷ 154 ∷ 155 ∷ 152 ∷ 153 ∷ 150 ∷ 151 ∷ 148 ∷ 149 ∷ 146 ∷ 147 ∷ 144 ∷ 145 ∷ 174 ∷ 175 ∷ 172 ∷ 173 ∷ 170 ∷ 171 ∷ 168 ∷ 169 ∷ 166 ∷ 167 ∷ 164 ∷ 165 ∷ 162 ∷ 163 ∷ 160 ∷ 161 ∷ 190 ∷ 191 ∷ 188 ∷ 189 ∷ 186 ∷ 187 ∷ 184 ∷ 185 ∷ 182 ∷ 183 ∷ 180 ∷ 181 ∷ 178 ∷ 179 ∷ 176 ∷ 177 ∷ 78 ∷ 79 ∷ 76 ∷ 77 ∷ 74 ∷ 75 ∷ 72 ∷ 73 ∷ 70 ∷ 71 ∷ 68 ∷ 69 ∷ 66 ∷ 67 ∷ 64 ∷ 65 ∷ [])) (short_tag 64)) ∷ []) (Say.Drained 5)
    ∷ answered (Do.Post 0 0 (filled_line 24)) Say.Ok
    ∷ answered_with (Do.Drain 0) ((Seal 0 (ctr 0 81) (line_of (range_with_len 73 7 ++ range_with_len 64 8 ++ range_with_len 120 8 ++ range_with_len 112 8 ++ range_with_len 104 8 ++ range_with_len 96 8 ++ range_with_len 152 8 ++ range_with_len 144 8 ++ 136 ∷ [])) (short_tag 129)) ∷ []) (Say.Drained 4)
    ∷ answered (Do.Post 0 0 (filled_line 60)) Say.Ok
    ∷ answered_with (Do.Drain 0) ((Seal 0 (ctr 0 82) (line_of (110 ∷ 111 ∷ range_with_len 104 4 ++ range_with_len 100 4 ++ range_with_len 96 4 ++ range_with_len 92 4 ++ range_with_len 88 4 ++ range_with_len 84 4 ++ range_with_len 80 4 ++ range_with_len 76 4 ++ range_with_len 72 4 ++ range_with_len 68 4 ++ range_with_len 64 4 ++ range_with_len 188 4 ++ range_with_len 184 4 ++ range_with_len 180 4 ++ range_with_len 176 4 ++ 172 ∷ 173 ∷ [])) (short_tag 66)) ∷ []) (Say.Drained 4)
    ∷ answered (Do.Post 0 0 (filled_line 137)) Say.Ok
    ∷ answered_with (Do.Drain 0) ((Seal 0 (ctr 0 83) (line_of (218 ∷ 221 ∷ 220 ∷ 223 ∷ 222 ∷ 209 ∷ 208 ∷ 211 ∷ 210 ∷ 213 ∷ 212 ∷ 215 ∷ 214 ∷ 233 ∷ 232 ∷ 235 ∷ 234 ∷ 237 ∷ 236 ∷ 239 ∷ 238 ∷ 225 ∷ 224 ∷ 227 ∷ 226 ∷ 229 ∷ 228 ∷ 231 ∷ 230 ∷ 249 ∷ 248 ∷ 251 ∷ 250 ∷ 253 ∷ 252 ∷ 255 ∷ 254 ∷ 241 ∷ 240 ∷ 243 ∷ 242 ∷ 245 ∷ 244 ∷ 247 ∷ 246 ∷ 9 ∷ 8 ∷ 11 ∷ 10 ∷ 13 ∷ 12 ∷ 15 ∷ 14 ∷ 1 ∷ 0 ∷ 3 ∷ 2 ∷ 5 ∷ 4 ∷ 7 ∷ 6 ∷ 25 ∷ 24 ∷ 27 ∷ [])) (short_tag 131)) ∷ []) (Say.Drained 4)
    ∷ answered (Do.Post 0 0 (filled_line 50)) Say.Ok
    ∷ answered_with (Do.Drain 0) ((Seal 0 (ctr 0 84) (line_of (102 ∷ 103 ∷ 100 ∷ 101 ∷ 106 ∷ 107 ∷ 104 ∷ 105 ∷ 110 ∷ 111 ∷ 108 ∷ 109 ∷ 82 ∷ 83 ∷ 80 ∷ 81 ∷ 86 ∷ 87 ∷ 84 ∷ 85 ∷ 90 ∷ 91 ∷ 88 ∷ 89 ∷ 94 ∷ 95 ∷ 92 ∷ 93 ∷ 66 ∷ 67 ∷ 64 ∷ 65 ∷ 70 ∷ 71 ∷ 68 ∷ 69 ∷ 74 ∷ 75 ∷ 72 ∷ 73 ∷ 78 ∷ 79 ∷ 76 ∷ 77 ∷ 178 ∷ 179 ∷ 176 ∷ 177 ∷ 182 ∷ 183 ∷ 180 ∷ 181 ∷ 186 ∷ 187 ∷ 184 ∷ 185 ∷ 190 ∷ 191 ∷ 188 ∷ 189 ∷ 162 ∷ 163 ∷ 160 ∷ 161 ∷ [])) (short_tag 68)) ∷ []) (Say.Drained 5)
    ∷ answered (Do.Post 0 0 (filled_line 61)) Say.Ok
    ∷ answered_with (Do.Drain 0) ((Seal 0 (ctr 0 85) (line_of (104 ∷ 107 ∷ 106 ∷ 101 ∷ 100 ∷ 103 ∷ 102 ∷ 97 ∷ 96 ∷ 99 ∷ 98 ∷ 93 ∷ 92 ∷ 95 ∷ 94 ∷ 89 ∷ 88 ∷ 91 ∷ 90 ∷ 85 ∷ 84 ∷ 87 ∷ 86 ∷ 81 ∷ 80 ∷ 83 ∷ 82 ∷ 77 ∷ 76 ∷ 79 ∷ 78 ∷ 73 ∷ 72 ∷ 75 ∷ 74 ∷ 69 ∷ 68 ∷ 71 ∷ 70 ∷ 65 ∷ 64 ∷ 67 ∷ 66 ∷ 189 ∷ 188 ∷ 191 ∷ 190 ∷ 185 ∷ 184 ∷ 187 ∷ 186 ∷ 181 ∷ 180 ∷ 183 ∷ 182 ∷ 177 ∷ 176 ∷ 179 ∷ 178 ∷ 173 ∷ 172 ∷ 175 ∷ 174 ∷ 169 ∷ [])) (short_tag 133)) ∷ []) (Say.Drained 4)
    ∷ answered (Do.Post 0 0 (filled_line 99)) Say.Ok
    ∷ answered_with (Do.Drain 0) ((Seal 0 (ctr 0 86) (line_of (53 ∷ 52 ∷ 59 ∷ 58 ∷ 57 ∷ 56 ∷ 63 ∷ 62 ∷ 61 ∷ 60 ∷ 3 ∷ 2 ∷ 1 ∷ 0 ∷ 7 ∷ 6 ∷ 5 ∷ 4 ∷ 11 ∷ 10 ∷ 9 ∷ 8 ∷ 15 ∷ 14 ∷ 13 ∷ 12 ∷ 19 ∷ 18 ∷ 17 ∷ 16 ∷ 23 ∷ 22 ∷ 21 ∷ 20 ∷ 27 ∷ 26 ∷ 25 ∷ 24 ∷ 31 ∷ 30 ∷ 29 ∷ 28 ∷ 227 ∷ 226 ∷ 225 ∷ 224 ∷ 231 ∷ 230 ∷ 229 ∷ 228 ∷ 235 ∷ 234 ∷ 233 ∷ 232 ∷ 239 ∷ 238 ∷ 237 ∷ 236 ∷ 243 ∷ 242 ∷ 241 ∷ 240 ∷ 247 ∷ 246 ∷ [])) (short_tag 70)) ∷ []) (Say.Drained 4)
    ∷ answered (Do.Post 0 0 (filled_line 102)) Say.Ok
    ∷ answered_with (Do.Drain 0) ((Seal 0 (ctr 0 87) (line_of (49 ∷ 62 ∷ 63 ∷ 60 ∷ 61 ∷ 58 ∷ 59 ∷ 56 ∷ 57 ∷ 6 ∷ 7 ∷ 4 ∷ 5 ∷ 2 ∷ 3 ∷ 0 ∷ 1 ∷ 14 ∷ 15 ∷ 12 ∷ 13 ∷ 10 ∷ 11 ∷ 8 ∷ 9 ∷ 22 ∷ 23 ∷ 20 ∷ 21 ∷ 18 ∷ 19 ∷ 16 ∷ 17 ∷ 30 ∷ 31 ∷ 28 ∷ 29 ∷ 26 ∷ 27 ∷ 24 ∷ 25 ∷ 230 ∷ 231 ∷ 228 ∷ 229 ∷ 226 ∷ 227 ∷ 224 ∷ 225 ∷ 238 ∷ 239 ∷ 236 ∷ 237 ∷ 234 ∷ 235 ∷ 232 ∷ 233 ∷ 246 ∷ 247 ∷ 244 ∷ 245 ∷ 242 ∷ 243 ∷ 240 ∷ [])) (short_tag 135)) ∷ []) (Say.Drained 4)
    ∷ answered (Do.Post 0 0 (filled_line 171)) Say.Ok
    ∷ answered_with (Do.Drain 0) ((Seal 0 (ctr 0 88) (line_of (243 ∷ 242 ∷ 241 ∷ 240 ∷ 247 ∷ 246 ∷ 245 ∷ 244 ∷ 203 ∷ 202 ∷ 201 ∷ 200 ∷ 207 ∷ 206 ∷ 205 ∷ 204 ∷ 195 ∷ 194 ∷ 193 ∷ 192 ∷ 199 ∷ 198 ∷ 197 ∷ 196 ∷ 219 ∷ 218 ∷ 217 ∷ 216 ∷ 223 ∷ 222 ∷ 221 ∷ 220 ∷ 211 ∷ 210 ∷ 209 ∷ 208 ∷ 215 ∷ 214 ∷ 213 ∷ 212 ∷ 43 ∷ 42 ∷ 41 ∷ 40 ∷ 47 ∷ 46 ∷ 45 ∷ 44 ∷ 35 ∷ 34 ∷ 33 ∷ 32 ∷ 39 ∷ 38 ∷ 37 ∷ 36 ∷ 59 ∷ 58 ∷ 57 ∷ 56 ∷ 63 ∷ 62 ∷ 61 ∷ 60 ∷ [])) (short_tag 72)) ∷ []) (Say.Drained 5)
    ∷ answered (Do.Post 0 0 (filled_line 83)) Say.Ok
    ∷ answered_with (Do.Drain 0) ((Seal 0 (ctr 0 89) (line_of (10 ∷ 9 ∷ 8 ∷ 15 ∷ 14 ∷ 13 ∷ 12 ∷ 51 ∷ 50 ∷ 49 ∷ 48 ∷ 55 ∷ 54 ∷ 53 ∷ 52 ∷ 59 ∷ 58 ∷ 57 ∷ 56 ∷ 63 ∷ 62 ∷ 61 ∷ 60 ∷ 35 ∷ 34 ∷ 33 ∷ 32 ∷ 39 ∷ 38 ∷ 37 ∷ 36 ∷ 43 ∷ 42 ∷ 41 ∷ 40 ∷ 47 ∷ 46 ∷ 45 ∷ 44 ∷ 211 ∷ 210 ∷ 209 ∷ 208 ∷ 215 ∷ 214 ∷ 213 ∷ 212 ∷ 219 ∷ 218 ∷ 217 ∷ 216 ∷ 223 ∷ 222 ∷ 221 ∷ 220 ∷ 195 ∷ 194 ∷ 193 ∷ 192 ∷ 199 ∷ 198 ∷ 197 ∷ 196 ∷ 203 ∷ [])) (short_tag 137)) ∷ []) (Say.Drained 4)
    ∷ answered (Do.Post 0 0 (filled_line 77)) Say.Ok
    ∷ answered_with (Do.Drain 0) ((Seal 0 (ctr 0 90) (line_of (23 ∷ 22 ∷ 17 ∷ 16 ∷ 19 ∷ 18 ∷ 45 ∷ 44 ∷ 47 ∷ 46 ∷ 41 ∷ 40 ∷ 43 ∷ 42 ∷ 37 ∷ 36 ∷ 39 ∷ 38 ∷ 33 ∷ 32 ∷ 35 ∷ 34 ∷ 61 ∷ 60 ∷ 63 ∷ 62 ∷ 57 ∷ 56 ∷ 59 ∷ 58 ∷ 53 ∷ 52 ∷ 55 ∷ 54 ∷ 49 ∷ 48 ∷ 51 ∷ 50 ∷ 205 ∷ 204 ∷ 207 ∷ 206 ∷ 201 ∷ 200 ∷ 203 ∷ 202 ∷ 197 ∷ 196 ∷ 199 ∷ 198 ∷ 193 ∷ 192 ∷ 195 ∷ 194 ∷ 221 ∷ 220 ∷ 223 ∷ 222 ∷ 217 ∷ 216 ∷ 219 ∷ 218 ∷ 213 ∷ 212 ∷ [])) (short_tag 74)) ∷ []) (Say.Drained 4)
    ∷ answered (Do.Post 0 0 (filled_line 243)) Say.Ok
    ∷ answered_with (Do.Drain 0) ((Seal 0 (ctr 0 91) (line_of (168 ∷ 175 ∷ 174 ∷ 173 ∷ 172 ∷ 147 ∷ 146 ∷ 145 ∷ 144 ∷ 151 ∷ 150 ∷ 149 ∷ 148 ∷ 155 ∷ 154 ∷ 153 ∷ 152 ∷ 159 ∷ 158 ∷ 157 ∷ 156 ∷ 131 ∷ 130 ∷ 129 ∷ 128 ∷ 135 ∷ 134 ∷ 133 ∷ 132 ∷ 139 ∷ 138 ∷ 137 ∷ 136 ∷ 143 ∷ 142 ∷ 141 ∷ 140 ∷ 115 ∷ 114 ∷ 113 ∷ 112 ∷ 119 ∷ 118 ∷ 117 ∷ 116 ∷ 123 ∷ 122 ∷ 121 ∷ 120 ∷ 127 ∷ 126 ∷ 125 ∷ 124 ∷ 99 ∷ 98 ∷ 97 ∷ 96 ∷ 103 ∷ 102 ∷ 101 ∷ 100 ∷ 107 ∷ 106 ∷ 105 ∷ [])) (short_tag 139)) ∷ []) (Say.Drained 4)
    ∷ answered (Do.Post 0 0 (filled_line 29)) Say.Ok
    ∷ answered_with (Do.Drain 0) ((Seal 0 (ctr 0 92) (line_of (65 ∷ 64 ∷ 67 ∷ 66 ∷ 125 ∷ 124 ∷ 127 ∷ 126 ∷ 121 ∷ 120 ∷ 123 ∷ 122 ∷ 117 ∷ 116 ∷ 119 ∷ 118 ∷ 113 ∷ 112 ∷ 115 ∷ 114 ∷ 109 ∷ 108 ∷ 111 ∷ 110 ∷ 105 ∷ 104 ∷ 107 ∷ 106 ∷ 101 ∷ 100 ∷ 103 ∷ 102 ∷ 97 ∷ 96 ∷ 99 ∷ 98 ∷ 157 ∷ 156 ∷ 159 ∷ 158 ∷ 153 ∷ 152 ∷ 155 ∷ 154 ∷ 149 ∷ 148 ∷ 151 ∷ 150 ∷ 145 ∷ 144 ∷ 147 ∷ 146 ∷ 141 ∷ 140 ∷ 143 ∷ 142 ∷ 137 ∷ 136 ∷ 139 ∷ 138 ∷ 133 ∷ 132 ∷ 135 ∷ 134 ∷ [])) (short_tag 76)) ∷ []) (Say.Drained 5)
    ∷ answered (Do.Post 0 0 (filled_line 255)) Say.Ok
    ∷ answered_with (Do.Drain 0) ((Seal 0 (ctr 0 93) (line_of (162 ∷ 161 ∷ 160 ∷ 159 ∷ 158 ∷ 157 ∷ 156 ∷ 155 ∷ 154 ∷ 153 ∷ 152 ∷ 151 ∷ 150 ∷ 149 ∷ 148 ∷ 147 ∷ 146 ∷ 145 ∷ 144 ∷ 143 ∷ 142 ∷ 141 ∷ 140 ∷ 139 ∷ 138 ∷ 137 ∷ 136 ∷ 135 ∷ 134 ∷ 133 ∷ 132 ∷ 131 ∷ 130 ∷ 129 ∷ 128 ∷ 127 ∷ 126 ∷ 125 ∷ 124 ∷ 123 ∷ 122 ∷ 121 ∷ 120 ∷ 119 ∷ 118 ∷ 117 ∷ 116 ∷ 115 ∷ 114 ∷ 113 ∷ 112 ∷ 111 ∷ 110 ∷ 109 ∷ 108 ∷ 107 ∷ 106 ∷ 105 ∷ 104 ∷ 103 ∷ 102 ∷ 101 ∷ 100 ∷ 99 ∷ [])) (short_tag 141)) ∷ []) (Say.Drained 4)
    ∷ answered (Do.Post 0 0 (filled_line 142)) Say.Ok
    ∷ answered_with (Do.Drain 0) ((Seal 0 (ctr 0 94) (line_of (208 ∷ 209 ∷ 238 ∷ 239 ∷ 236 ∷ 237 ∷ 234 ∷ 235 ∷ 232 ∷ 233 ∷ 230 ∷ 231 ∷ 228 ∷ 229 ∷ 226 ∷ 227 ∷ 224 ∷ 225 ∷ 254 ∷ 255 ∷ 252 ∷ 253 ∷ 250 ∷ 251 ∷ 248 ∷ 249 ∷ 246 ∷ 247 ∷ 244 ∷ 245 ∷ 242 ∷ 243 ∷ 240 ∷ 241 ∷ 14 ∷ 15 ∷ 12 ∷ 13 ∷ 10 ∷ 11 ∷ 8 ∷ 9 ∷ 6 ∷ 7 ∷ 4 ∷ 5 ∷ 2 ∷ 3 ∷ 0 ∷ 1 ∷ 30 ∷ 31 ∷ 28 ∷ 29 ∷ 26 ∷ 27 ∷ 24 ∷ 25 ∷ 22 ∷ 23 ∷ 20 ∷ 21 ∷ 18 ∷ 19 ∷ [])) (short_tag 78)) ∷ []) (Say.Drained 4)
    ∷ answered (Do.Post 0 0 (filled_line 190)) Say.Ok
    ∷ answered_with (Do.Drain 0) ((Seal 0 (ctr 0 95) (line_of (225 ∷ 222 ∷ 223 ∷ 220 ∷ 221 ∷ 218 ∷ 219 ∷ 216 ∷ 217 ∷ 214 ∷ 215 ∷ 212 ∷ 213 ∷ 210 ∷ 211 ∷ 208 ∷ 209 ∷ 206 ∷ 207 ∷ 204 ∷ 205 ∷ 202 ∷ 203 ∷ 200 ∷ 201 ∷ 198 ∷ 199 ∷ 196 ∷ 197 ∷ 194 ∷ 195 ∷ 192 ∷ 193 ∷ 62 ∷ 63 ∷ 60 ∷ 61 ∷ 58 ∷ 59 ∷ 56 ∷ 57 ∷ 54 ∷ 55 ∷ 52 ∷ 53 ∷ 50 ∷ 51 ∷ 48 ∷ 49 ∷ 46 ∷ 47 ∷ 44 ∷ 45 ∷ 42 ∷ 43 ∷ 40 ∷ 41 ∷ 38 ∷ 39 ∷ 36 ∷ 37 ∷ 34 ∷ 35 ∷ 32 ∷ [])) (short_tag 143)) ∷ []) (Say.Drained 4)
    ∷ answered (Do.Post 0 0 (filled_line 251)) Say.Ok
    ∷ answered_with (Do.Drain 0) ((Seal 0 (ctr 0 96) (line_of (155 ∷ 154 ∷ 153 ∷ 152 ∷ 159 ∷ 158 ∷ 157 ∷ 156 ∷ 147 ∷ 146 ∷ 145 ∷ 144 ∷ 151 ∷ 150 ∷ 149 ∷ 148 ∷ 139 ∷ 138 ∷ 137 ∷ 136 ∷ 143 ∷ 142 ∷ 141 ∷ 140 ∷ 131 ∷ 130 ∷ 129 ∷ 128 ∷ 135 ∷ 134 ∷ 133 ∷ 132 ∷ 123 ∷ 122 ∷ 121 ∷ 120 ∷ 127 ∷ 126 ∷ 125 ∷ 124 ∷ 115 ∷ 114 ∷ 113 ∷ 112 ∷ 119 ∷ 118 ∷ 117 ∷ 116 ∷ 107 ∷ 106 ∷ 105 ∷ 104 ∷ 111 ∷ 110 ∷ 109 ∷ 108 ∷ 99 ∷ 98 ∷ 97 ∷ 96 ∷ 103 ∷ 102 ∷ 101 ∷ 100 ∷ [])) (short_tag 112)) ∷ []) (Say.Drained 5)
    ∷ answered (Do.Post 0 0 (filled_line 19)) Say.Ok
    ∷ answered_with (Do.Drain 0) ((Seal 0 (ctr 0 97) (line_of (114 ∷ 113 ∷ 112 ∷ 119 ∷ 118 ∷ 117 ∷ 116 ∷ 123 ∷ 122 ∷ 121 ∷ 120 ∷ 127 ∷ 126 ∷ 125 ∷ 124 ∷ 99 ∷ 98 ∷ 97 ∷ 96 ∷ 103 ∷ 102 ∷ 101 ∷ 100 ∷ 107 ∷ 106 ∷ 105 ∷ 104 ∷ 111 ∷ 110 ∷ 109 ∷ 108 ∷ 147 ∷ 146 ∷ 145 ∷ 144 ∷ 151 ∷ 150 ∷ 149 ∷ 148 ∷ 155 ∷ 154 ∷ 153 ∷ 152 ∷ 159 ∷ 158 ∷ 157 ∷ 156 ∷ 131 ∷ 130 ∷ 129 ∷ 128 ∷ 135 ∷ 134 ∷ 133 ∷ 132 ∷ 139 ∷ 138 ∷ 137 ∷ 136 ∷ 143 ∷ 142 ∷ 141 ∷ 140 ∷ 179 ∷ [])) (short_tag 177)) ∷ []) (Say.Drained 4)
    ∷ answered (Do.Post 0 0 (filled_line 57)) Say.Ok
    ∷ answered_with (Do.Drain 0) ((Seal 0 (ctr 0 98) (line_of (91 ∷ 90 ∷ 93 ∷ 92 ∷ 95 ∷ 94 ∷ 81 ∷ 80 ∷ 83 ∷ 82 ∷ 85 ∷ 84 ∷ 87 ∷ 86 ∷ 73 ∷ 72 ∷ 75 ∷ 74 ∷ 77 ∷ 76 ∷ 79 ∷ 78 ∷ 65 ∷ 64 ∷ 67 ∷ 66 ∷ 69 ∷ 68 ∷ 71 ∷ 70 ∷ 185 ∷ 184 ∷ 187 ∷ 186 ∷ 189 ∷ 188 ∷ 191 ∷ 190 ∷ 177 ∷ 176 ∷ 179 ∷ 178 ∷ 181 ∷ 180 ∷ 183 ∷ 182 ∷ 169 ∷ 168 ∷ 171 ∷ 170 ∷ 173 ∷ 172 ∷ 175 ∷ 174 ∷ 161 ∷ 160 ∷ 163 ∷ 162 ∷ 165 ∷ 164 ∷ 167 ∷ 166 ∷ 153 ∷ 152 ∷ [])) (short_tag 114)) ∷ []) (Say.Drained 4)
    ∷ answered (Do.Post 0 0 (filled_line 248)) Say.Ok
    ∷ answered_with (Do.Drain 0) ((Seal 0 (ctr 0 99) (line_of (range_with_len 155 5 ++ range_with_len 144 8 ++ range_with_len 136 8 ++ range_with_len 128 8 ++ range_with_len 120 8 ++ range_with_len 112 8 ++ range_with_len 104 8 ++ range_with_len 96 8 ++ 88 ∷ 89 ∷ 90 ∷ [])) (short_tag 179)) ∷ []) (Say.Drained 4)
    ∷ answered (Do.Post 0 0 (filled_line 70)) Say.Ok
    ∷ answered_with (Do.Drain 0) ((Seal 0 (ctr 0 100) (line_of (34 ∷ 35 ∷ 32 ∷ 33 ∷ 46 ∷ 47 ∷ 44 ∷ 45 ∷ 42 ∷ 43 ∷ 40 ∷ 41 ∷ 54 ∷ 55 ∷ 52 ∷ 53 ∷ 50 ∷ 51 ∷ 48 ∷ 49 ∷ 62 ∷ 63 ∷ 60 ∷ 61 ∷ 58 ∷ 59 ∷ 56 ∷ 57 ∷ 198 ∷ 199 ∷ 196 ∷ 197 ∷ 194 ∷ 195 ∷ 192 ∷ 193 ∷ 206 ∷ 207 ∷ 204 ∷ 205 ∷ 202 ∷ 203 ∷ 200 ∷ 201 ∷ 214 ∷ 215 ∷ 212 ∷ 213 ∷ 210 ∷ 211 ∷ 208 ∷ 209 ∷ 222 ∷ 223 ∷ 220 ∷ 221 ∷ 218 ∷ 219 ∷ 216 ∷ 217 ∷ 230 ∷ 231 ∷ 228 ∷ 229 ∷ [])) (short_tag 116)) ∷ []) (Say.Drained 5)
    ∷ answered (Do.Post 0 0 (filled_line 254)) Say.Ok
    ∷ answered_with (Do.Drain 0) ((Seal 0 (ctr 0 101) (line_of (155 ∷ 152 ∷ 153 ∷ 150 ∷ 151 ∷ 148 ∷ 149 ∷ 146 ∷ 147 ∷ 144 ∷ 145 ∷ 142 ∷ 143 ∷ 140 ∷ 141 ∷ 138 ∷ 139 ∷ 136 ∷ 137 ∷ 134 ∷ 135 ∷ 132 ∷ 133 ∷ 130 ∷ 131 ∷ 128 ∷ 129 ∷ 126 ∷ 127 ∷ 124 ∷ 125 ∷ 122 ∷ 123 ∷ 120 ∷ 121 ∷ 118 ∷ 119 ∷ 116 ∷ 117 ∷ 114 ∷ 115 ∷ 112 ∷ 113 ∷ 110 ∷ 111 ∷ 108 ∷ 109 ∷ 106 ∷ 107 ∷ 104 ∷ 105 ∷ 102 ∷ 103 ∷ 100 ∷ 101 ∷ 98 ∷ 99 ∷ 96 ∷ 97 ∷ 94 ∷ 95 ∷ 92 ∷ 93 ∷ 90 ∷ [])) (short_tag 181)) ∷ []) (Say.Drained 4)
    ∷ answered (Do.Post 0 0 (filled_line 12)) Say.Ok
    ∷ answered_with (Do.Drain 0) ((Seal 0 (ctr 0 102) (line_of (106 ∷ 107 ∷ range_with_len 100 4 ++ range_with_len 96 4 ++ range_with_len 124 4 ++ range_with_len 120 4 ++ range_with_len 116 4 ++ range_with_len 112 4 ++ range_with_len 140 4 ++ range_with_len 136 4 ++ range_with_len 132 4 ++ range_with_len 128 4 ++ range_with_len 156 4 ++ range_with_len 152 4 ++ range_with_len 148 4 ++ range_with_len 144 4 ++ range_with_len 172 4 ++ 168 ∷ 169 ∷ [])) (short_tag 118)) ∷ []) (Say.Drained 4)
    ∷ answered (Do.Post 0 0 (filled_line 130)) Say.Ok
    ∷ answered_with (Do.Drain 0) ((Seal 0 (ctr 0 103) (line_of (229 ∷ 234 ∷ 235 ∷ 232 ∷ 233 ∷ 238 ∷ 239 ∷ 236 ∷ 237 ∷ 242 ∷ 243 ∷ 240 ∷ 241 ∷ 246 ∷ 247 ∷ 244 ∷ 245 ∷ 250 ∷ 251 ∷ 248 ∷ 249 ∷ 254 ∷ 255 ∷ 252 ∷ 253 ∷ 2 ∷ 3 ∷ 0 ∷ 1 ∷ 6 ∷ 7 ∷ 4 ∷ 5 ∷ 10 ∷ 11 ∷ 8 ∷ 9 ∷ 14 ∷ 15 ∷ 12 ∷ 13 ∷ 18 ∷ 19 ∷ 16 ∷ 17 ∷ 22 ∷ 23 ∷ 20 ∷ 21 ∷ 26 ∷ 27 ∷ 24 ∷ 25 ∷ 30 ∷ 31 ∷ 28 ∷ 29 ∷ 34 ∷ 35 ∷ 32 ∷ 33 ∷ 38 ∷ 39 ∷ 36 ∷ [])) (short_tag 183)) ∷ []) (Say.Drained 4)
    ∷ answered (Do.Post 0 0 (filled_line 250)) Say.Ok
    ∷ answered_with (Do.Drain 0) ((Seal 0 (ctr 0 104) (line_of (146 ∷ 147 ∷ 144 ∷ 145 ∷ 150 ∷ 151 ∷ 148 ∷ 149 ∷ 138 ∷ 139 ∷ 136 ∷ 137 ∷ 142 ∷ 143 ∷ 140 ∷ 141 ∷ 130 ∷ 131 ∷ 128 ∷ 129 ∷ 134 ∷ 135 ∷ 132 ∷ 133 ∷ 122 ∷ 123 ∷ 120 ∷ 121 ∷ 126 ∷ 127 ∷ 124 ∷ 125 ∷ 114 ∷ 115 ∷ 112 ∷ 113 ∷ 118 ∷ 119 ∷ 116 ∷ 117 ∷ 106 ∷ 107 ∷ 104 ∷ 105 ∷ 110 ∷ 111 ∷ 108 ∷ 109 ∷ 98 ∷ 99 ∷ 96 ∷ 97 ∷ 102 ∷ 103 ∷ 100 ∷ 101 ∷ 90 ∷ 91 ∷ 88 ∷ 89 ∷ 94 ∷ 95 ∷ 92 ∷ 93 ∷ [])) (short_tag 120)) ∷ []) (Say.Drained 5)
    ∷ answered (Do.Post 0 0 (filled_line 240)) Say.Ok
    ∷ answered_with (Do.Drain 0) ((Seal 0 (ctr 0 105) (line_of (range_with_len 153 7 ++ range_with_len 128 16 ++ range_with_len 112 16 ++ range_with_len 96 16 ++ range_with_len 80 9)) (short_tag 185)) ∷ []) (Say.Drained 4)
    ∷ answered (Do.Post 0 0 (filled_line 178)) Say.Ok
    ∷ answered_with (Do.Drain 0) ((Seal 0 (ctr 0 106) (line_of (216 ∷ 217 ∷ 222 ∷ 223 ∷ 220 ∷ 221 ∷ 194 ∷ 195 ∷ 192 ∷ 193 ∷ 198 ∷ 199 ∷ 196 ∷ 197 ∷ 202 ∷ 203 ∷ 200 ∷ 201 ∷ 206 ∷ 207 ∷ 204 ∷ 205 ∷ 50 ∷ 51 ∷ 48 ∷ 49 ∷ 54 ∷ 55 ∷ 52 ∷ 53 ∷ 58 ∷ 59 ∷ 56 ∷ 57 ∷ 62 ∷ 63 ∷ 60 ∷ 61 ∷ 34 ∷ 35 ∷ 32 ∷ 33 ∷ 38 ∷ 39 ∷ 36 ∷ 37 ∷ 42 ∷ 43 ∷ 40 ∷ 41 ∷ 46 ∷ 47 ∷ 44 ∷ 45 ∷ 18 ∷ 19 ∷ 16 ∷ 17 ∷ 22 ∷ 23 ∷ 20 ∷ 21 ∷ 26 ∷ 27 ∷ [])) (short_tag 122)) ∷ []) (Say.Drained 4)
    ∷ answered (Do.Post 0 0 (filled_line 121)) Say.Ok
    ∷ answered_with (Do.Drain 0) ((Seal 0 (ctr 0 107) (line_of (18 ∷ 21 ∷ 20 ∷ 23 ∷ 22 ∷ 9 ∷ 8 ∷ 11 ∷ 10 ∷ 13 ∷ 12 ∷ 15 ∷ 14 ∷ 1 ∷ 0 ∷ 3 ∷ 2 ∷ 5 ∷ 4 ∷ 7 ∷ 6 ∷ 249 ∷ 248 ∷ 251 ∷ 250 ∷ 253 ∷ 252 ∷ 255 ∷ 254 ∷ 241 ∷ 240 ∷ 243 ∷ 242 ∷ 245 ∷ 244 ∷ 247 ∷ 246 ∷ 233 ∷ 232 ∷ 235 ∷ 234 ∷ 237 ∷ 236 ∷ 239 ∷ 238 ∷ 225 ∷ 224 ∷ 227 ∷ 226 ∷ 229 ∷ 228 ∷ 231 ∷ 230 ∷ 217 ∷ 216 ∷ 219 ∷ 218 ∷ 221 ∷ 220 ∷ 223 ∷ 222 ∷ 209 ∷ 208 ∷ 211 ∷ [])) (short_tag 187)) ∷ []) (Say.Drained 4)
    ∷ answered (Do.Post 0 0 (filled_line 5)) Say.Ok
    ∷ answered_with (Do.Drain 0) ((Seal 0 (ctr 0 108) (line_of (105 ∷ 104 ∷ 107 ∷ 106 ∷ 117 ∷ 116 ∷ 119 ∷ 118 ∷ 113 ∷ 112 ∷ 115 ∷ 114 ∷ 125 ∷ 124 ∷ 127 ∷ 126 ∷ 121 ∷ 120 ∷ 123 ∷ 122 ∷ 133 ∷ 132 ∷ 135 ∷ 134 ∷ 129 ∷ 128 ∷ 131 ∷ 130 ∷ 141 ∷ 140 ∷ 143 ∷ 142 ∷ 137 ∷ 136 ∷ 139 ∷ 138 ∷ 149 ∷ 148 ∷ 151 ∷ 150 ∷ 145 ∷ 144 ∷ 147 ∷ 146 ∷ 157 ∷ 156 ∷ 159 ∷ 158 ∷ 153 ∷ 152 ∷ 155 ∷ 154 ∷ 165 ∷ 164 ∷ 167 ∷ 166 ∷ 161 ∷ 160 ∷ 163 ∷ 162 ∷ 173 ∷ 172 ∷ 175 ∷ 174 ∷ [])) (short_tag 124)) ∷ []) (Say.Drained 5)
    ∷ answered (Do.Post 0 0 (filled_line 49)) Say.Ok
    ∷ answered_with (Do.Drain 0) ((Seal 0 (ctr 0 109) (line_of (92 ∷ 95 ∷ 94 ∷ 65 ∷ 64 ∷ 67 ∷ 66 ∷ 69 ∷ 68 ∷ 71 ∷ 70 ∷ 73 ∷ 72 ∷ 75 ∷ 74 ∷ 77 ∷ 76 ∷ 79 ∷ 78 ∷ 177 ∷ 176 ∷ 179 ∷ 178 ∷ 181 ∷ 180 ∷ 183 ∷ 182 ∷ 185 ∷ 184 ∷ 187 ∷ 186 ∷ 189 ∷ 188 ∷ 191 ∷ 190 ∷ 161 ∷ 160 ∷ 163 ∷ 162 ∷ 165 ∷ 164 ∷ 167 ∷ 166 ∷ 169 ∷ 168 ∷ 171 ∷ 170 ∷ 173 ∷ 172 ∷ 175 ∷ 174 ∷ 145 ∷ 144 ∷ 147 ∷ 146 ∷ 149 ∷ 148 ∷ 151 ∷ 150 ∷ 153 ∷ 152 ∷ 155 ∷ 154 ∷ 157 ∷ [])) (short_tag 189)) ∷ []) (Say.Drained 4)
    ∷ answered (Do.Post 0 0 (filled_line 192)) Say.Ok
    ∷ answered_with (Do.Drain 0) ((Seal 0 (ctr 0 110) (line_of (range_with_len 174 18 ++ range_with_len 64 46)) (short_tag 126)) ∷ []) (Say.Drained 4)
    ∷ answered (Do.Post 0 0 (filled_line 144)) Say.Ok
    ∷ answered_with (Do.Drain 0) ((Seal 0 (ctr 0 111) (line_of (255 ∷ range_with_len 224 16 ++ range_with_len 16 16 ++ range_with_len 0 16 ++ range_with_len 48 15)) (short_tag 191)) ∷ []) (Say.Drained 4)
    ∷ answered (Do.Post 0 0 (filled_line 228)) Say.Ok
    ∷ answered_with (Do.Drain 0) ((Seal 0 (ctr 0 112) (line_of (range_with_len 148 4 ++ range_with_len 144 4 ++ range_with_len 156 4 ++ range_with_len 152 4 ++ range_with_len 100 4 ++ range_with_len 96 4 ++ range_with_len 108 4 ++ range_with_len 104 4 ++ range_with_len 116 4 ++ range_with_len 112 4 ++ range_with_len 124 4 ++ range_with_len 120 4 ++ range_with_len 68 4 ++ range_with_len 64 4 ++ range_with_len 76 4 ++ range_with_len 72 4)) (short_tag 96)) ∷ []) (Say.Drained 5)
    ∷ answered (Do.Post 0 0 (filled_line 90)) Say.Ok
    ∷ answered_with (Do.Drain 0) ((Seal 0 (ctr 0 113) (line_of (43 ∷ 40 ∷ 41 ∷ 46 ∷ 47 ∷ 44 ∷ 45 ∷ 34 ∷ 35 ∷ 32 ∷ 33 ∷ 38 ∷ 39 ∷ 36 ∷ 37 ∷ 218 ∷ 219 ∷ 216 ∷ 217 ∷ 222 ∷ 223 ∷ 220 ∷ 221 ∷ 210 ∷ 211 ∷ 208 ∷ 209 ∷ 214 ∷ 215 ∷ 212 ∷ 213 ∷ 202 ∷ 203 ∷ 200 ∷ 201 ∷ 206 ∷ 207 ∷ 204 ∷ 205 ∷ 194 ∷ 195 ∷ 192 ∷ 193 ∷ 198 ∷ 199 ∷ 196 ∷ 197 ∷ 250 ∷ 251 ∷ 248 ∷ 249 ∷ 254 ∷ 255 ∷ 252 ∷ 253 ∷ 242 ∷ 243 ∷ 240 ∷ 241 ∷ 246 ∷ 247 ∷ 244 ∷ 245 ∷ 234 ∷ [])) (short_tag 161)) ∷ []) (Say.Drained 4)
    ∷ answered (Do.Post 0 0 (filled_line 23)) Say.Ok
    ∷ answered_with (Do.Drain 0) ((Seal 0 (ctr 0 114) (line_of (101 ∷ 100 ∷ 99 ∷ 98 ∷ 97 ∷ 96 ∷ 111 ∷ 110 ∷ 109 ∷ 108 ∷ 107 ∷ 106 ∷ 105 ∷ 104 ∷ 151 ∷ 150 ∷ 149 ∷ 148 ∷ 147 ∷ 146 ∷ 145 ∷ 144 ∷ 159 ∷ 158 ∷ 157 ∷ 156 ∷ 155 ∷ 154 ∷ 153 ∷ 152 ∷ 135 ∷ 134 ∷ 133 ∷ 132 ∷ 131 ∷ 130 ∷ 129 ∷ 128 ∷ 143 ∷ 142 ∷ 141 ∷ 140 ∷ 139 ∷ 138 ∷ 137 ∷ 136 ∷ 183 ∷ 182 ∷ 181 ∷ 180 ∷ 179 ∷ 178 ∷ 177 ∷ 176 ∷ 191 ∷ 190 ∷ 189 ∷ 188 ∷ 187 ∷ 186 ∷ 185 ∷ 184 ∷ 167 ∷ 166 ∷ [])) (short_tag 98)) ∷ []) (Say.Drained 4)
    ∷ answered (Do.Post 0 0 (filled_line 67)) Say.Ok
    ∷ answered_with (Do.Drain 0) ((Seal 0 (ctr 0 115) (line_of (48 ∷ 55 ∷ 54 ∷ 53 ∷ 52 ∷ 59 ∷ 58 ∷ 57 ∷ 56 ∷ 63 ∷ 62 ∷ 61 ∷ 60 ∷ 195 ∷ 194 ∷ 193 ∷ 192 ∷ 199 ∷ 198 ∷ 197 ∷ 196 ∷ 203 ∷ 202 ∷ 201 ∷ 200 ∷ 207 ∷ 206 ∷ 205 ∷ 204 ∷ 211 ∷ 210 ∷ 209 ∷ 208 ∷ 215 ∷ 214 ∷ 213 ∷ 212 ∷ 219 ∷ 218 ∷ 217 ∷ 216 ∷ 223 ∷ 222 ∷ 221 ∷ 220 ∷ 227 ∷ 226 ∷ 225 ∷ 224 ∷ 231 ∷ 230 ∷ 229 ∷ 228 ∷ 235 ∷ 234 ∷ 233 ∷ 232 ∷ 239 ∷ 238 ∷ 237 ∷ 236 ∷ 243 ∷ 242 ∷ 241 ∷ [])) (short_tag 163)) ∷ []) (Say.Drained 4)
    ∷ answered (Do.Post 0 0 (filled_line 63)) Say.Ok
    ∷ answered_with (Do.Drain 0) ((Seal 0 (ctr 0 116) (line_of (75 ∷ 74 ∷ 73 ∷ 72 ∷ 71 ∷ 70 ∷ 69 ∷ 68 ∷ 67 ∷ 66 ∷ 65 ∷ 64 ∷ 191 ∷ 190 ∷ 189 ∷ 188 ∷ 187 ∷ 186 ∷ 185 ∷ 184 ∷ 183 ∷ 182 ∷ 181 ∷ 180 ∷ 179 ∷ 178 ∷ 177 ∷ 176 ∷ 175 ∷ 174 ∷ 173 ∷ 172 ∷ 171 ∷ 170 ∷ 169 ∷ 168 ∷ 167 ∷ 166 ∷ 165 ∷ 164 ∷ 163 ∷ 162 ∷ 161 ∷ 160 ∷ 159 ∷ 158 ∷ 157 ∷ 156 ∷ 155 ∷ 154 ∷ 153 ∷ 152 ∷ 151 ∷ 150 ∷ 149 ∷ 148 ∷ 147 ∷ 146 ∷ 145 ∷ 144 ∷ 143 ∷ 142 ∷ 141 ∷ 140 ∷ [])) (short_tag 100)) ∷ []) (Say.Drained 5)
    ∷ answered (Do.Post 0 0 (filled_line 25)) Say.Ok
    ∷ answered_with (Do.Drain 0) ((Seal 0 (ctr 0 117) (line_of (108 ∷ 111 ∷ 110 ∷ 97 ∷ 96 ∷ 99 ∷ 98 ∷ 101 ∷ 100 ∷ 103 ∷ 102 ∷ 153 ∷ 152 ∷ 155 ∷ 154 ∷ 157 ∷ 156 ∷ 159 ∷ 158 ∷ 145 ∷ 144 ∷ 147 ∷ 146 ∷ 149 ∷ 148 ∷ 151 ∷ 150 ∷ 137 ∷ 136 ∷ 139 ∷ 138 ∷ 141 ∷ 140 ∷ 143 ∷ 142 ∷ 129 ∷ 128 ∷ 131 ∷ 130 ∷ 133 ∷ 132 ∷ 135 ∷ 134 ∷ 185 ∷ 184 ∷ 187 ∷ 186 ∷ 189 ∷ 188 ∷ 191 ∷ 190 ∷ 177 ∷ 176 ∷ 179 ∷ 178 ∷ 181 ∷ 180 ∷ 183 ∷ 182 ∷ 169 ∷ 168 ∷ 171 ∷ 170 ∷ 173 ∷ [])) (short_tag 165)) ∷ []) (Say.Drained 4)
    ∷ answered (Do.Post 0 0 (filled_line 105)) Say.Ok
    ∷ answered_with (Do.Drain 0) ((Seal 0 (ctr 0 118) (line_of (31 ∷ 30 ∷ 17 ∷ 16 ∷ 19 ∷ 18 ∷ 21 ∷ 20 ∷ 23 ∷ 22 ∷ 233 ∷ 232 ∷ 235 ∷ 234 ∷ 237 ∷ 236 ∷ 239 ∷ 238 ∷ 225 ∷ 224 ∷ 227 ∷ 226 ∷ 229 ∷ 228 ∷ 231 ∷ 230 ∷ 249 ∷ 248 ∷ 251 ∷ 250 ∷ 253 ∷ 252 ∷ 255 ∷ 254 ∷ 241 ∷ 240 ∷ 243 ∷ 242 ∷ 245 ∷ 244 ∷ 247 ∷ 246 ∷ 201 ∷ 200 ∷ 203 ∷ 202 ∷ 205 ∷ 204 ∷ 207 ∷ 206 ∷ 193 ∷ 192 ∷ 195 ∷ 194 ∷ 197 ∷ 196 ∷ 199 ∷ 198 ∷ 217 ∷ 216 ∷ 219 ∷ 218 ∷ 221 ∷ 220 ∷ [])) (short_tag 102)) ∷ []) (Say.Drained 4)
    ∷ answered (Do.Post 0 0 (filled_line 98)) Say.Ok
    ∷ answered_with (Do.Drain 0) ((Seal 0 (ctr 0 119) (line_of (21 ∷ 26 ∷ 27 ∷ 24 ∷ 25 ∷ 30 ∷ 31 ∷ 28 ∷ 29 ∷ 226 ∷ 227 ∷ 224 ∷ 225 ∷ 230 ∷ 231 ∷ 228 ∷ 229 ∷ 234 ∷ 235 ∷ 232 ∷ 233 ∷ 238 ∷ 239 ∷ 236 ∷ 237 ∷ 242 ∷ 243 ∷ 240 ∷ 241 ∷ 246 ∷ 247 ∷ 244 ∷ 245 ∷ 250 ∷ 251 ∷ 248 ∷ 249 ∷ 254 ∷ 255 ∷ 252 ∷ 253 ∷ 194 ∷ 195 ∷ 192 ∷ 193 ∷ 198 ∷ 199 ∷ 196 ∷ 197 ∷ 202 ∷ 203 ∷ 200 ∷ 201 ∷ 206 ∷ 207 ∷ 204 ∷ 205 ∷ 210 ∷ 211 ∷ 208 ∷ 209 ∷ 214 ∷ 215 ∷ 212 ∷ [])) (short_tag 167)) ∷ []) (Say.Drained 4)
    ∷ answered (Do.Post 0 0 (filled_line 152)) Say.Ok
    ∷ answered_with (Do.Drain 0) ((Seal 0 (ctr 0 120) (line_of (range_with_len 224 8 ++ range_with_len 24 8 ++ range_with_len 16 8 ++ range_with_len 8 8 ++ range_with_len 0 8 ++ range_with_len 56 8 ++ range_with_len 48 8 ++ range_with_len 40 8)) (short_tag 104)) ∷ []) (Say.Drained 5)
    ∷ answered (Do.Post 0 0 (filled_line 94)) Say.Ok
    ∷ answered_with (Do.Drain 0) ((Seal 0 (ctr 0 121) (line_of (39 ∷ 36 ∷ 37 ∷ 34 ∷ 35 ∷ 32 ∷ 33 ∷ 222 ∷ 223 ∷ 220 ∷ 221 ∷ 218 ∷ 219 ∷ 216 ∷ 217 ∷ 214 ∷ 215 ∷ 212 ∷ 213 ∷ 210 ∷ 211 ∷ 208 ∷ 209 ∷ 206 ∷ 207 ∷ 204 ∷ 205 ∷ 202 ∷ 203 ∷ 200 ∷ 201 ∷ 198 ∷ 199 ∷ 196 ∷ 197 ∷ 194 ∷ 195 ∷ 192 ∷ 193 ∷ 254 ∷ 255 ∷ 252 ∷ 253 ∷ 250 ∷ 251 ∷ 248 ∷ 249 ∷ 246 ∷ 247 ∷ 244 ∷ 245 ∷ 242 ∷ 243 ∷ 240 ∷ 241 ∷ 238 ∷ 239 ∷ 236 ∷ 237 ∷ 234 ∷ 235 ∷ 232 ∷ 233 ∷ 230 ∷ [])) (short_tag 169)) ∷ []) (Say.Drained 4)
    ∷ answered (Do.Post 0 0 (filled_line 232)) Say.Ok
    ∷ answered_with (Do.Drain 0) ((Seal 0 (ctr 0 122) (line_of (range_with_len 146 6 ++ range_with_len 104 8 ++ range_with_len 96 8 ++ range_with_len 120 8 ++ range_with_len 112 8 ++ range_with_len 72 8 ++ range_with_len 64 8 ++ range_with_len 88 8 ++ 80 ∷ 81 ∷ [])) (short_tag 106)) ∷ []) (Say.Drained 4)
    ∷ answered (Do.Post 0 0 (filled_line 205)) Say.Ok
    ∷ answered_with (Do.Drain 0) ((Seal 0 (ctr 0 123) (line_of (182 ∷ 177 ∷ 176 ∷ 179 ∷ 178 ∷ 77 ∷ 76 ∷ 79 ∷ 78 ∷ 73 ∷ 72 ∷ 75 ∷ 74 ∷ 69 ∷ 68 ∷ 71 ∷ 70 ∷ 65 ∷ 64 ∷ 67 ∷ 66 ∷ 93 ∷ 92 ∷ 95 ∷ 94 ∷ 89 ∷ 88 ∷ 91 ∷ 90 ∷ 85 ∷ 84 ∷ 87 ∷ 86 ∷ 81 ∷ 80 ∷ 83 ∷ 82 ∷ 109 ∷ 108 ∷ 111 ∷ 110 ∷ 105 ∷ 104 ∷ 107 ∷ 106 ∷ 101 ∷ 100 ∷ 103 ∷ 102 ∷ 97 ∷ 96 ∷ 99 ∷ 98 ∷ 125 ∷ 124 ∷ 127 ∷ 126 ∷ 121 ∷ 120 ∷ 123 ∷ 122 ∷ 117 ∷ 116 ∷ 119 ∷ [])) (short_tag 171)) ∷ []) (Say.Drained 4)
    ∷ answered (Do.Post 0 0 (filled_line 116)) Say.Ok
    ∷ answered_with (Do.Drain 0) ((Seal 0 (ctr 0 124) (line_of (range_with_len 8 4 ++ range_with_len 244 4 ++ range_with_len 240 4 ++ range_with_len 252 4 ++ range_with_len 248 4 ++ range_with_len 228 4 ++ range_with_len 224 4 ++ range_with_len 236 4 ++ range_with_len 232 4 ++ range_with_len 212 4 ++ range_with_len 208 4 ++ range_with_len 220 4 ++ range_with_len 216 4 ++ range_with_len 196 4 ++ range_with_len 192 4 ++ range_with_len 204 4)) (short_tag 108)) ∷ []) (Say.Drained 5)
    ∷ []

-- With tampering, 318 commands
abbrev pub tampered_pages_setup : Setup
tampered_pages_setup =
    record {
      shape = record { levels = 1; sets = 1; ways = 1; loss = 4; major = 0; persist = 0; shadow = true; durable = false; combines = false };
      formulas = weak;
    }

abbrev pub tampered_pages : Trace
tampered_pages =
    answered (Do.Post 0 0 (filled_line 99)) Say.Ok
    ∷ answered_with (Do.Drain 0) ((Seal 0 (ctr 0 125) (line_of (30 ∷ 29 ∷ 28 ∷ 227 ∷ 226 ∷ 225 ∷ 224 ∷ 231 ∷ 230 ∷ 229 ∷ 228 ∷ 235 ∷ 234 ∷ 233 ∷ 232 ∷ 239 ∷ 238 ∷ 237 ∷ 236 ∷ 243 ∷ 242 ∷ 241 ∷ 240 ∷ 247 ∷ 246 ∷ 245 ∷ 244 ∷ 251 ∷ 250 ∷ 249 ∷ 248 ∷ 255 ∷ 254 ∷ 253 ∷ 252 ∷ 195 ∷ 194 ∷ 193 ∷ 192 ∷ 199 ∷ 198 ∷ 197 ∷ 196 ∷ 203 ∷ 202 ∷ 201 ∷ 200 ∷ 207 ∷ 206 ∷ 205 ∷ 204 ∷ 211 ∷ 210 ∷ 209 ∷ 208 ∷ 215 ∷ 214 ∷ 213 ∷ 212 ∷ 219 ∷ 218 ∷ 217 ∷ 216 ∷ 223 ∷ [])) (short_tag 173)) ∷ []) (Say.Drained 4)
    ∷ answered (Do.Post 0 0 (filled_line 236)) Say.Ok
    ∷ answered_with (Do.Drain 0) ((Seal 0 (ctr 0 126) (line_of (146 ∷ 147 ∷ range_with_len 108 4 ++ range_with_len 104 4 ++ range_with_len 100 4 ++ range_with_len 96 4 ++ range_with_len 124 4 ++ range_with_len 120 4 ++ range_with_len 116 4 ++ range_with_len 112 4 ++ range_with_len 76 4 ++ range_with_len 72 4 ++ range_with_len 68 4 ++ range_with_len 64 4 ++ range_with_len 92 4 ++ range_with_len 88 4 ++ range_with_len 84 4 ++ 80 ∷ 81 ∷ [])) (short_tag 110)) ∷ []) (Say.Drained 4)
    ∷ answered (Do.Post 0 0 (filled_line 157)) Say.Ok
    ∷ answered_with (Do.Drain 0) ((Seal 0 (ctr 0 127) (line_of (226 ∷ 29 ∷ 28 ∷ 31 ∷ 30 ∷ 25 ∷ 24 ∷ 27 ∷ 26 ∷ 21 ∷ 20 ∷ 23 ∷ 22 ∷ 17 ∷ 16 ∷ 19 ∷ 18 ∷ 13 ∷ 12 ∷ 15 ∷ 14 ∷ 9 ∷ 8 ∷ 11 ∷ 10 ∷ 5 ∷ 4 ∷ 7 ∷ 6 ∷ 1 ∷ 0 ∷ 3 ∷ 2 ∷ 61 ∷ 60 ∷ 63 ∷ 62 ∷ 57 ∷ 56 ∷ 59 ∷ 58 ∷ 53 ∷ 52 ∷ 55 ∷ 54 ∷ 49 ∷ 48 ∷ 51 ∷ 50 ∷ 45 ∷ 44 ∷ 47 ∷ 46 ∷ 41 ∷ 40 ∷ 43 ∷ 42 ∷ 37 ∷ 36 ∷ 39 ∷ 38 ∷ 33 ∷ 32 ∷ 35 ∷ [])) (short_tag 175)) ∷ []) (Say.Drained 4)
    ∷ answered (Do.Post 0 0 (filled_line 239)) Say.Ok
    ∷ answered_with (Do.Drain 0) ((Begin 0) ∷ (Seal 0 (ctr 1 1) (line_of (237 ∷ 236 ∷ 235 ∷ 234 ∷ 233 ∷ 232 ∷ 231 ∷ 230 ∷ 229 ∷ 228 ∷ 227 ∷ 226 ∷ 225 ∷ 224 ∷ 255 ∷ 254 ∷ 253 ∷ 252 ∷ 251 ∷ 250 ∷ 249 ∷ 248 ∷ 247 ∷ 246 ∷ 245 ∷ 244 ∷ 243 ∷ 242 ∷ 241 ∷ 240 ∷ 207 ∷ 206 ∷ 205 ∷ 204 ∷ 203 ∷ 202 ∷ 201 ∷ 200 ∷ 199 ∷ 198 ∷ 197 ∷ 196 ∷ 195 ∷ 194 ∷ 193 ∷ 192 ∷ 223 ∷ 222 ∷ 221 ∷ 220 ∷ 219 ∷ 218 ∷ 217 ∷ 216 ∷ 215 ∷ 214 ∷ 213 ∷ 212 ∷ 211 ∷ 210 ∷ 209 ∷ 208 ∷ 175 ∷ 174 ∷ [])) (short_tag 16)) ∷ []) (Say.Drained 7)
    ∷ answered (Do.Post 0 0 (filled_line 166)) Say.Ok
    ∷ answered_with (Do.Drain 0) ((Seal 0 (ctr 1 2) (line_of (165 ∷ 162 ∷ 163 ∷ 160 ∷ 161 ∷ 174 ∷ 175 ∷ 172 ∷ 173 ∷ 170 ∷ 171 ∷ 168 ∷ 169 ∷ 182 ∷ 183 ∷ 180 ∷ 181 ∷ 178 ∷ 179 ∷ 176 ∷ 177 ∷ 190 ∷ 191 ∷ 188 ∷ 189 ∷ 186 ∷ 187 ∷ 184 ∷ 185 ∷ 134 ∷ 135 ∷ 132 ∷ 133 ∷ 130 ∷ 131 ∷ 128 ∷ 129 ∷ 142 ∷ 143 ∷ 140 ∷ 141 ∷ 138 ∷ 139 ∷ 136 ∷ 137 ∷ 150 ∷ 151 ∷ 148 ∷ 149 ∷ 146 ∷ 147 ∷ 144 ∷ 145 ∷ 158 ∷ 159 ∷ 156 ∷ 157 ∷ 154 ∷ 155 ∷ 152 ∷ 153 ∷ 230 ∷ 231 ∷ 228 ∷ [])) (short_tag 83)) ∷ []) (Say.Drained 4)
    ∷ answered (Do.Read 0 1) (Say.Got (filled_line 0) 0)
    ∷ answered (Do.Post 1 1 (filled_line 182)) Say.Ok
    ∷ answered (Do.Part 0 1 14 42 (line_of (replicate 42 153 ++ replicate 22 0))) Say.Ok
    ∷ answered Do.Off Say.Ok
    ∷ answered Do.On (Say.Recovered 4 5 4)
    ∷ answered Do.On Say.Already
    ∷ answered (Do.Part 0 1 56 4 (line_of (replicate 4 27 ++ replicate 60 0))) Say.Ok
    ∷ answered Do.On Say.Already
    ∷ answered (Do.Post 0 0 (filled_line 229)) Say.Ok
    ∷ answered (Do.Drain 1) Say.Empty
    ∷ answered (Do.Drain 1) Say.Empty
    ∷ answered (Do.Poke 324 (filled_line 248)) Say.Ok
    ∷ answered (Do.Read 0 1) (Say.Got (line_of (replicate 56 0 ++ replicate 4 27 ++ replicate 4 0)) 0)
    ∷ answered (Do.Fence 1) (Say.Fenced 0 0)
    ∷ answered_with (Do.Drain 0) ((Seal 1 (ctr 1 1) (line_of (range_with_len 3 56 ++ 32 ∷ 39 ∷ 38 ∷ 37 ∷ range_with_len 63 4)) (short_tag 81)) ∷ []) (Say.Drained 6)
    ∷ answered (Do.Part 1 1 33 7 (line_of (replicate 7 245 ++ replicate 57 0))) Say.Ok
    ∷ answered_with (Do.Drain 0) ((Seal 0 (ctr 1 3) (line_of (225 ∷ 224 ∷ 227 ∷ 226 ∷ 237 ∷ 236 ∷ 239 ∷ 238 ∷ 233 ∷ 232 ∷ 235 ∷ 234 ∷ 245 ∷ 244 ∷ 247 ∷ 246 ∷ 241 ∷ 240 ∷ 243 ∷ 242 ∷ 253 ∷ 252 ∷ 255 ∷ 254 ∷ 249 ∷ 248 ∷ 251 ∷ 250 ∷ 197 ∷ 196 ∷ 199 ∷ 198 ∷ 193 ∷ 192 ∷ 195 ∷ 194 ∷ 205 ∷ 204 ∷ 207 ∷ 206 ∷ 201 ∷ 200 ∷ 203 ∷ 202 ∷ 213 ∷ 212 ∷ 215 ∷ 214 ∷ 209 ∷ 208 ∷ 211 ∷ 210 ∷ 221 ∷ 220 ∷ 223 ∷ 222 ∷ 217 ∷ 216 ∷ 219 ∷ 218 ∷ 165 ∷ 164 ∷ 167 ∷ 166 ∷ [])) (short_tag 18)) ∷ []) (Say.Drained 4)
    ∷ answered (Do.Flip 325 494) Say.Ok
    ∷ answered Do.Stat (Say.Counts (record { reads = 150; writes = 302; latches = 264; tags = 138; digests = 273 }))
    ∷ answered (Do.Post 0 0 (filled_line 49)) Say.Ok
    ∷ answered_with (Do.Drain 1) ((Seal 1 (ctr 1 2) (line_of (range_with_len 4 33 ++ 208 ∷ 211 ∷ 210 ∷ 221 ∷ 220 ∷ 223 ∷ 222 ∷ range_with_len 44 16 ++ 39 ∷ 38 ∷ 37 ∷ 36 ∷ range_with_len 64 4)) (short_tag 231)) ∷ []) (Say.Drained 4)
    ∷ answered (Do.Post 0 0 (filled_line 5)) Say.Ok
    ∷ answered (Do.Post 0 0 (filled_line 58)) Say.Ok
    ∷ answered (Do.Post 0 0 (filled_line 134)) Say.Ok
    ∷ answered (Do.Post 0 0 (filled_line 232)) Say.Ok
    ∷ answered (Do.Post 1 0 (filled_line 156)) Say.Ok
    ∷ answered (Do.Loss 1) (Say.LossSet 2)
    ∷ answered_with (Do.Fence 1) ((Seal 0 (ctr 1 4) (line_of (153 ∷ 154 ∷ 155 ∷ range_with_len 148 4 ++ range_with_len 144 4 ++ range_with_len 140 4 ++ range_with_len 136 4 ++ range_with_len 132 4 ++ range_with_len 128 4 ++ range_with_len 188 4 ++ range_with_len 184 4 ++ range_with_len 180 4 ++ range_with_len 176 4 ++ range_with_len 172 4 ++ range_with_len 168 4 ++ range_with_len 164 4 ++ range_with_len 160 4 ++ range_with_len 220 4 ++ 216 ∷ [])) (short_tag 85)) ∷ []) (Say.Fenced 1 5)
    ∷ answered Do.On Say.Already
    ∷ answered (Do.Flip 1 111) Say.Ok
    ∷ answered Do.Snap Say.Ok
    ∷ answered Do.Off Say.Ok
    ∷ answered Do.On (Say.NoCounter 1 0)
    ∷ answered Do.On (Say.NoCounter 1 0)
    ∷ answered Do.On (Say.NoCounter 1 0)
    ∷ answered Do.On (Say.NoCounter 1 0)
    ∷ answered Do.Stat (Say.Counts (record { reads = 182; writes = 308; latches = 269; tags = 149; digests = 277 }))
    ∷ answered (Do.Post 0 1 (filled_line 8)) Say.Off
    ∷ answered (Do.Drain 0) Say.Off
    ∷ answered (Do.Flip 256 482) Say.Ok
    ∷ answered Do.On (Say.NoCounter 1 0)
    ∷ answered Do.On (Say.NoCounter 1 0)
    ∷ answered Do.On (Say.NoCounter 1 0)
    ∷ answered Do.On (Say.NoCounter 1 0)
    ∷ answered (Do.Peek 274) (Say.Raw (line_of (replicate 15 0 ++ 88 ∷ replicate 15 0 ++ 153 ∷ replicate 15 0 ++ 90 ∷ replicate 15 0 ++ 155 ∷ [])))
    ∷ answered (Do.Flip 320 16) Say.Ok
    ∷ answered Do.On (Say.NoCounter 1 0)
    ∷ answered (Do.Post 0 1 (filled_line 166)) Say.Off
    ∷ answered (Do.Read 0 1) Say.Off
    ∷ answered Do.On (Say.NoCounter 1 0)
    ∷ answered (Do.Drain 0) Say.Off
    ∷ answered Do.On (Say.NoCounter 1 0)
    ∷ answered Do.On (Say.NoCounter 1 0)
    ∷ answered Do.On (Say.NoCounter 1 0)
    ∷ answered (Do.Read 1 0) Say.Off
    ∷ answered (Do.Post 0 1 (filled_line 50)) Say.Off
    ∷ answered Do.On (Say.NoCounter 1 0)
    ∷ answered Do.On (Say.NoCounter 1 0)
    ∷ answered (Do.Post 0 1 (filled_line 211)) Say.Off
    ∷ answered Do.On (Say.NoCounter 1 0)
    ∷ []

-- Without tampering, 22 commands
abbrev pub blurred_setup : Setup
blurred_setup =
    record {
      shape = record { levels = 1; sets = 1; ways = 1; loss = 4; major = 0; persist = 0; shadow = true; durable = false; combines = false };
      formulas = blur;
    }

abbrev pub blurred : Trace
blurred =
    answered (Do.Post 1 0 (filled_line 219)) Say.Ok
    ∷ answered (Do.Read 0 1) (Say.Got (filled_line 0) 0)
    ∷ answered (Do.Drain 0) Say.Empty
    ∷ answered (Do.Post 0 64 (filled_line 11)) Say.Ok
    ∷ answered (Do.Peek 91) (Say.Raw (line_of (range_with_len 91 64)))
    ∷ answered_with (Do.Drain 1) ((Seal 0 (ctr 0 1) (line_of (218 ∷ 217 ∷ 216 ∷ 223 ∷ 222 ∷ 221 ∷ 220 ∷ 211 ∷ 210 ∷ 209 ∷ 208 ∷ 215 ∷ 214 ∷ 213 ∷ 212 ∷ 203 ∷ 202 ∷ 201 ∷ 200 ∷ 207 ∷ 206 ∷ 205 ∷ 204 ∷ 195 ∷ 194 ∷ 193 ∷ 192 ∷ 199 ∷ 198 ∷ 197 ∷ 196 ∷ 251 ∷ 250 ∷ 249 ∷ 248 ∷ 255 ∷ 254 ∷ 253 ∷ 252 ∷ 243 ∷ 242 ∷ 241 ∷ 240 ∷ 247 ∷ 246 ∷ 245 ∷ 244 ∷ 235 ∷ 234 ∷ 233 ∷ 232 ∷ 239 ∷ 238 ∷ 237 ∷ 236 ∷ 227 ∷ 226 ∷ 225 ∷ 224 ∷ 231 ∷ 230 ∷ 229 ∷ 228 ∷ 155 ∷ [])) (short_tag 80)) ∷ []) (Say.Drained 6)
    ∷ answered (Do.Peek 220) (Say.Raw (line_of (range_with_len 220 36 ++ range_with_len 0 28)))
    ∷ answered (Do.Read 0 1) (Say.Got (filled_line 0) 0)
    ∷ answered (Do.Post 0 64 (filled_line 100)) Say.Ok
    ∷ answered (Do.Post 0 1 (filled_line 86)) Say.Ok
    ∷ answered (Do.Post 0 0 (filled_line 254)) Say.Ok
    ∷ answered_with (Do.Drain 0) ((Seal 64 (ctr 0 1) (line_of (74 ∷ 73 ∷ 72 ∷ 79 ∷ 78 ∷ 77 ∷ 76 ∷ 67 ∷ 66 ∷ 65 ∷ 64 ∷ 71 ∷ 70 ∷ 69 ∷ 68 ∷ 91 ∷ 90 ∷ 89 ∷ 88 ∷ 95 ∷ 94 ∷ 93 ∷ 92 ∷ 83 ∷ 82 ∷ 81 ∷ 80 ∷ 87 ∷ 86 ∷ 85 ∷ 84 ∷ 107 ∷ 106 ∷ 105 ∷ 104 ∷ 111 ∷ 110 ∷ 109 ∷ 108 ∷ 99 ∷ 98 ∷ 97 ∷ 96 ∷ 103 ∷ 102 ∷ 101 ∷ 100 ∷ 123 ∷ 122 ∷ 121 ∷ 120 ∷ 127 ∷ 126 ∷ 125 ∷ 124 ∷ 115 ∷ 114 ∷ 113 ∷ 112 ∷ 119 ∷ 118 ∷ 117 ∷ 116 ∷ 139 ∷ [])) (short_tag 144)) ∷ []) (Say.Drained 6)
    ∷ answered (Do.Fence 1) (Say.Fenced 0 0)
    ∷ answered (Do.Part 0 64 25 30 (line_of (replicate 30 240 ++ replicate 34 0))) Say.Ok
    ∷ answered (Do.Part 0 64 29 6 (line_of (replicate 6 125 ++ replicate 58 0))) Say.Ok
    ∷ answered_with (Do.Fence 0) ((Seal 64 (ctr 0 2) (line_of (38 ∷ 39 ∷ range_with_len 32 4 ++ range_with_len 44 4 ++ range_with_len 40 4 ++ range_with_len 52 4 ++ range_with_len 48 4 ++ range_with_len 60 4 ++ range_with_len 56 4 ++ range_with_len 4 4 ++ range_with_len 0 4 ++ range_with_len 12 4 ++ range_with_len 8 4 ++ range_with_len 20 4 ++ range_with_len 16 4 ++ range_with_len 28 4 ++ range_with_len 24 4 ++ 228 ∷ 229 ∷ [])) (short_tag 81)) ∷ (Seal 1 (ctr 0 1) (line_of (84 ∷ 85 ∷ 82 ∷ 83 ∷ 80 ∷ 81 ∷ 94 ∷ 95 ∷ 92 ∷ 93 ∷ 90 ∷ 91 ∷ 88 ∷ 89 ∷ 70 ∷ 71 ∷ 68 ∷ 69 ∷ 66 ∷ 67 ∷ 64 ∷ 65 ∷ 78 ∷ 79 ∷ 76 ∷ 77 ∷ 74 ∷ 75 ∷ 72 ∷ 73 ∷ 118 ∷ 119 ∷ 116 ∷ 117 ∷ 114 ∷ 115 ∷ 112 ∷ 113 ∷ 126 ∷ 127 ∷ 124 ∷ 125 ∷ 122 ∷ 123 ∷ 120 ∷ 121 ∷ 102 ∷ 103 ∷ 100 ∷ 101 ∷ 98 ∷ 99 ∷ 96 ∷ 97 ∷ 110 ∷ 111 ∷ 108 ∷ 109 ∷ 106 ∷ 107 ∷ 104 ∷ 105 ∷ 22 ∷ 23 ∷ [])) (short_tag 17)) ∷ (Seal 0 (ctr 0 2) (line_of (252 ∷ 253 ∷ 250 ∷ 251 ∷ 248 ∷ 249 ∷ 246 ∷ 247 ∷ 244 ∷ 245 ∷ 242 ∷ 243 ∷ 240 ∷ 241 ∷ 238 ∷ 239 ∷ 236 ∷ 237 ∷ 234 ∷ 235 ∷ 232 ∷ 233 ∷ 230 ∷ 231 ∷ 228 ∷ 229 ∷ 226 ∷ 227 ∷ 224 ∷ 225 ∷ 222 ∷ 223 ∷ 220 ∷ 221 ∷ 218 ∷ 219 ∷ 216 ∷ 217 ∷ 214 ∷ 215 ∷ 212 ∷ 213 ∷ 210 ∷ 211 ∷ 208 ∷ 209 ∷ 206 ∷ 207 ∷ 204 ∷ 205 ∷ 202 ∷ 203 ∷ 200 ∷ 201 ∷ 198 ∷ 199 ∷ 196 ∷ 197 ∷ 194 ∷ 195 ∷ 192 ∷ 193 ∷ 190 ∷ 191 ∷ [])) (short_tag 17)) ∷ (Seal 64 (ctr 0 3) (line_of (39 ∷ range_with_len 32 4 ++ range_with_len 44 4 ++ range_with_len 40 4 ++ range_with_len 52 4 ++ range_with_len 48 4 ++ range_with_len 60 4 ++ range_with_len 172 4 ++ range_with_len 144 16 ++ range_with_len 128 10 ++ 30 ∷ 31 ∷ range_with_len 24 4 ++ 228 ∷ 229 ∷ 230 ∷ [])) (short_tag 145)) ∷ (Seal 64 (ctr 0 4) (line_of (range_with_len 32 4 ++ range_with_len 44 4 ++ range_with_len 40 4 ++ range_with_len 52 4 ++ range_with_len 48 4 ++ range_with_len 60 4 ++ 56 ∷ 173 ∷ 174 ∷ 175 ∷ 144 ∷ 28 ∷ 31 ∷ 30 ∷ 25 ∷ 24 ∷ 27 ∷ range_with_len 151 9 ++ range_with_len 128 11 ++ 31 ∷ range_with_len 24 4 ++ range_with_len 228 4)) (short_tag 82)) ∷ []) (Say.Fenced 5 25)
    ∷ answered (Do.Post 1 64 (filled_line 1)) Say.Ok
    ∷ answered (Do.Post 1 0 (filled_line 148)) Say.Ok
    ∷ answered Do.Off Say.Ok
    ∷ answered (Do.Drain 1) Say.Off
    ∷ answered (Do.Peek 162) (Say.Raw (line_of (range_with_len 162 64)))
    ∷ answered Do.On (Say.Shown (Twin 64 0 4 5 (line_of (range_with_len 32 4 ++ range_with_len 44 4 ++ range_with_len 40 4 ++ range_with_len 52 4 ++ range_with_len 48 4 ++ range_with_len 60 4 ++ 56 ∷ 173 ∷ 174 ∷ 175 ∷ 144 ∷ 28 ∷ 31 ∷ 30 ∷ 25 ∷ 24 ∷ 27 ∷ range_with_len 151 9 ++ range_with_len 128 11 ++ 31 ∷ range_with_len 24 4 ++ range_with_len 228 4)) (short_tag 82)))
    ∷ []
