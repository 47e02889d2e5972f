mod Stretch
